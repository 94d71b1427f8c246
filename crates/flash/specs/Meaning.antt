-- What a flash means, whatever it is made of: a card of blocks.
use Rattle.std.specs.Prelude.{◌≡◌, ℕ, ◌+◌, ◌<◌, ◌≤◌, List, [], length, replicate, slice_index_or, slice_set}
use Rattle.flash.specs.declared.geometry.Geometry.{Geometry}

-- one block: the bytes of its pages, the lowest page that may still be programmed, and how often it was erased
pub record Block : Type 0 where
  pub pages : List (List ℕ)
  pub floor : ℕ
  pub erases : ℕ

-- what all blocks of a card share: pages a block, bytes a page, and how often a block may be erased
pub record Shape : Type 0 where
  pub pages : ℕ
  pub size : ℕ
  pub endurance : ℕ

pub record Card : Type 0 where
  pub shape : Shape
  pub blocks : List Block

-- what stands for a block that does not exist
abbrev pub absent : Block
absent = record { pages = []; floor = 0; erases = 0 }

abbrev pub block_at : Card → ℕ → Block
block_at c b = slice_index_or c.blocks b absent

abbrev pub block_count : Card → ℕ
block_count c = length c.blocks

-- the bytes of a page
abbrev pub page_at : Card → ℕ → ℕ → List ℕ
page_at c b p = slice_index_or (block_at c b).pages p []

abbrev pub floor_at : Card → ℕ → ℕ
floor_at c b = (block_at c b).floor

abbrev pub erase_count_at : Card → ℕ → ℕ
erase_count_at c b = (block_at c b).erases

-- the four measures of a card
abbrev pub geometry_of : Card → Geometry
geometry_of c = record { blocks = block_count c; pages = c.shape.pages; size = c.shape.size; endurance = c.shape.endurance }

-- a page as an erase leaves it
abbrev pub blank_page : Shape → List ℕ
blank_page s = replicate s.size 255

-- a block as an erase leaves it, with its erase count
abbrev pub blank_block : Shape → ℕ → Block
blank_block s n = record { pages = replicate s.pages (blank_page s); floor = 0; erases = n }

-- a card on which nothing was programmed or erased yet
abbrev pub blank_card : Geometry → Card
blank_card g =
    let s : Shape = record { pages = g.pages; size = g.size; endurance = g.endurance } in
    record { shape = s; blocks = replicate g.blocks (blank_block s 0) }

-- the flash without blocks, which results where a making fails
abbrev pub no_card : Card
no_card = record { shape = record { pages = 2; size = 4; endurance = 1 }; blocks = [] }

-- the card in which one block is another
abbrev pub with_block : Card → ℕ → Block → Card
with_block c b x = record { shape = c.shape; blocks = slice_set c.blocks b x }

-- the card after a page was programmed: the page holds the bytes, and the floor is just above it
unfoldable pub programmed : Card → ℕ → ℕ → List ℕ → Card
programmed c b p bytes =
    with_block c b (record { pages = slice_set (block_at c b).pages p bytes; floor = p + 1; erases = (block_at c b).erases })

-- the card after a block was erased: all its pages are blank, its floor is 0, and its count is one higher
unfoldable pub erased : Card → ℕ → Card
erased c b = with_block c b (blank_block c.shape ((block_at c b).erases + 1))

-- a block of whole pages, with a floor and a count in range, that is blank at and above its floor
pub record SoundBlock (s : Shape) (x : Block) : Type 0 where
  pub page_count : length x.pages ≡ s.pages
  pub page_sizes : (p : ℕ) → p < s.pages → length (slice_index_or x.pages p []) ≡ s.size
  pub floor_high : x.floor ≤ s.pages
  pub erases_high : x.erases ≤ s.endurance
  pub blank_above : (p : ℕ) → p < s.pages → x.floor ≤ p → slice_index_or x.pages p [] ≡ blank_page s

-- a card within the limits, of sound blocks
pub record Sound (c : Card) : Type 0 where
  pub pages_low : 2 ≤ c.shape.pages
  pub pages_high : c.shape.pages ≤ 64
  pub size_low : 4 ≤ c.shape.size
  pub size_high : c.shape.size ≤ 4096
  pub endurance_low : 1 ≤ c.shape.endurance
  pub endurance_high : c.shape.endurance ≤ 1000000
  pub blocks_high : block_count c ≤ 256
  pub each : (b : ℕ) → b < block_count c → SoundBlock c.shape (block_at c b)
