-- What an image means: each block is a header and then its pages, all in one memory.
use Rattle.std.specs.Prelude.{◌≡◌, ℕ, zero, suc, ◌+◌, ◌-◌, ◌*◌, ◌/◌, ◌%◌, ◌^◌, ◌≤◌, Bool, cond, ◌&&◌, List, [], ◌∷◌, ◌++◌, map, length, take, drop, replicate, Some, None, Option, ◌==◌, nat_le, slice_index}
use Rattle.std.specs.List.{range_with_len, list_all}
use Rattle.flash.specs.declared.geometry.Geometry.{Geometry}
use Rattle.flash.specs.declared.making.MakingFault.{MakingFault}
use Rattle.flash.specs.declared.making.MakingFault.TheVariants.{BadHeader, NotBlank}
use Rattle.flash.specs.Meaning.{Block, Card, no_card}
use Rattle.chips.specs.Layout.{pages_length, span, all_spans, span_start, page_place, page_in, fitting_fault}

-- the bytes of a header
abbrev pub header_length : ℕ
header_length = 4

-- four bytes as a number, most significant first
abbrev pub word : List ℕ → ℕ
word xs = slice_index xs 0 * 2 ^ 24 + slice_index xs 1 * 2 ^ 16 + slice_index xs 2 * 2 ^ 8 + slice_index xs 3

-- a number as four bytes, most significant first
abbrev pub four_bytes : ℕ → List ℕ
four_bytes w = (w / 2 ^ 24 % 2 ^ 8) ∷ (w / 2 ^ 16 % 2 ^ 8) ∷ (w / 2 ^ 8 % 2 ^ 8) ∷ (w % 2 ^ 8) ∷ []

-- a header as a number: the floor in 7 bits, the erase count in 20, and five zero bits
abbrev pub header_word : ℕ → ℕ → ℕ
header_word floor erases = floor * 2 ^ 25 + erases * 2 ^ 5

-- a header as it lies in memory
abbrev pub header_bytes : ℕ → ℕ → List ℕ
header_bytes floor erases = four_bytes (header_word floor erases)

-- the floor in such a number
abbrev pub floor_of : ℕ → ℕ
floor_of w = w / 2 ^ 25

-- the erase count in it
abbrev pub count_of : ℕ → ℕ
count_of w = w / 2 ^ 5 % 2 ^ 20

-- the five bits after them, which are zero in a good header
abbrev pub spare_of : ℕ → ℕ
spare_of w = w % 2 ^ 5

-- the floor in a header as it lies in memory
abbrev pub floor_in : List ℕ → ℕ
floor_in h = floor_of (word h)

-- the erase count in it
abbrev pub count_in : List ℕ → ℕ
count_in h = count_of (word h)

-- the bits after them
abbrev pub spare_in : List ℕ → ℕ
spare_in h = spare_of (word h)

-- the parts of a header as it lies in memory
pub record HeaderOf (h : List ℕ) (floor erases spare : ℕ) : Type 0 where
  pub floor_is : floor ≡ floor_in h
  pub erases_is : erases ≡ count_in h
  pub spare_is : spare ≡ spare_in h

-- the bytes of a block: its header and its pages
abbrev pub block_length : Geometry → ℕ
block_length = span header_length

-- the bytes of all blocks
abbrev pub image_length : Geometry → ℕ
image_length = all_spans header_length

-- where a block begins
abbrev pub start_of : Geometry → ℕ → ℕ
start_of = span_start header_length

-- a memory that reaches to the end of a block
abbrev pub HasBlock : Geometry → List ℕ → ℕ → Type 0
HasBlock g m b = start_of g b + block_length g ≤ length m

-- the header of a block
abbrev pub header_at : Geometry → List ℕ → ℕ → List ℕ
header_at g m b = take header_length (drop (start_of g b) m)

-- where a page of a block begins
abbrev pub page_start : Geometry → ℕ → ℕ → ℕ
page_start = page_place header_length

-- the bytes of a page
abbrev pub image_page : Geometry → List ℕ → ℕ → ℕ → List ℕ
image_page = page_in header_length

-- a block, as its header and its pages have it
abbrev pub image_block : Geometry → List ℕ → ℕ → Block
image_block g m b =
    record { pages = map (image_page g m b) (range_with_len 0 g.pages); floor = floor_in (header_at g m b); erases = count_in (header_at g m b) }

-- the card that an image means
unfoldable pub image_card : Geometry → List ℕ → Card
image_card g m =
    record { shape = record { pages = g.pages; size = g.size; endurance = g.endurance }; blocks = map (image_block g m) (range_with_len 0 g.blocks) }

-- whether all bytes are 255
abbrev pub all_blank : List ℕ → Bool
all_blank = list_all (λ x. x == 255)

-- the first fault that a list of tests finds
abbrev pub first_fault : List (Option MakingFault) → Option MakingFault
first_fault [] = None
first_fault (None ∷ tests) = first_fault tests
first_fault (Some fault ∷ tests) = Some fault

-- tests that the measures are within their limits, and that so many bytes hold all blocks
abbrev pub room_fault : Geometry → ℕ → Option MakingFault
room_fault = fitting_fault header_length

-- a floor and an erase count in range, and zero bits after them
abbrev pub good_header : Geometry → ℕ → ℕ → ℕ → Bool
good_header g floor erases spare = nat_le floor g.pages && nat_le erases g.endurance && spare == 0

-- tests the header of a block
abbrev pub header_fault : Geometry → List ℕ → ℕ → Option MakingFault
header_fault g h b = cond (good_header g (floor_in h) (count_in h) (spare_in h)) None (Some (BadHeader (record { 0 = b })))

-- tests that a page is blank
abbrev pub page_fault : Geometry → List ℕ → ℕ → ℕ → Option MakingFault
page_fault g m b p = cond (all_blank (image_page g m b p)) None (Some (NotBlank (record { 0 = b })))

-- tests the header of a block, and then each page from the floor on
unfoldable pub block_fault : Geometry → List ℕ → ℕ → Option MakingFault
block_fault g m b =
    let floor : ℕ = floor_in (header_at g m b) in
    first_fault (header_fault g (header_at g m b) b ∷ map (page_fault g m b) (range_with_len floor (g.pages - floor)))

-- what keeps a memory from being taken up as an image: tests for room, and then each block in ascending order
unfoldable pub image_fault : Geometry → List ℕ → Option MakingFault
image_fault g m = first_fault (room_fault g (length m) ∷ map (block_fault g m) (range_with_len 0 g.blocks))

-- a memory that can be taken up as an image of these measures, and then means this card
pub record ImageOf (g : Geometry) (m : List ℕ) (c : Card) : Type 0 where
  pub whole : image_fault g m ≡ None
  pub means : image_card g m ≡ c

-- an image is taken up as it is; where there is a fault, the flash without blocks results
abbrev pub attached_card : Option MakingFault → Geometry → List ℕ → Card
attached_card None g m = image_card g m
attached_card (Some fault) g m = no_card

-- the pages of a block as an erase leaves them
abbrev pub blank_pages : Geometry → List ℕ
blank_pages g = replicate (pages_length g) 255

-- a block that was never used: a header of zeros, and blank pages
abbrev pub fresh_block : Geometry → List ℕ
fresh_block g = replicate header_length 0 ++ blank_pages g

-- a list so many times, one after the other
abbrev pub repeated : ℕ → List ℕ → List ℕ
repeated zero xs = []
repeated (suc n) xs = xs ++ repeated n xs

-- an image of blocks that were never used, and the rest of the memory as it was
abbrev pub blank_image : Geometry → List ℕ → List ℕ
blank_image g m = repeated g.blocks (fresh_block g) ++ drop (image_length g) m

-- the memory becomes a fresh image, or is left where there is a fault
abbrev pub blanked_memory : Option MakingFault → Geometry → List ℕ → List ℕ
blanked_memory None g m = blank_image g m
blanked_memory (Some fault) g m = m

-- what is written into a header is read from it again
abbrev pub HeadersReturn : Type 0
HeadersReturn =
    (floor erases : ℕ) → floor ≤ 64 → erases ≤ 1000000 →
    (floor_in (header_bytes floor erases) ≡ floor) × (count_in (header_bytes floor erases) ≡ erases) × (spare_in (header_bytes floor erases) ≡ 0)
