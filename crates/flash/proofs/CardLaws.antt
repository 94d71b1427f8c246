-- What program and erase change of a card, and what they leave: code above uses these laws and not the definitions.
use Rattle.std.proofs.Common.{◌≡◌, ℕ, ◌+◌, ◌<◌, ◌≢◌, List, [], length, get_or, set, refl, ap, ◌∙◌, ⊎_elim}
use Rattle.std.proofs.lemmas.List.{length-set, get_or-set_same, get_or-set_other, get_or-replicate}
use Rattle.std.proofs.lemmas.Bool.{cases_eq}
use Rattle.flash.specs.Meaning.{Card, Shape, Block, absent, blank_page, blank_block, block_at, block_count, page_at, floor_at, erase_count_at, geometry_of, programmed, erased}

-- two cards of one shape and as many blocks have the same measures
pub same_geometry : (c d : Card) → c.shape ≡ d.shape → block_count c ≡ block_count d → geometry_of c ≡ geometry_of d
same_geometry c d e f =
    ap (λ (s : Shape). record { blocks = block_count c; pages = s.pages; size = s.size; endurance = s.endurance }) e
    ∙ ap (λ n. record { blocks = n; pages = d.shape.pages; size = d.shape.size; endurance = d.shape.endurance }) f

module _ (c : Card) (b p : ℕ) (x : List ℕ) where
  pub programmed_shape : (programmed c b p x).shape ≡ c.shape
  unfolding programmed
  programmed_shape = refl

  pub programmed_count : block_count (programmed c b p x) ≡ block_count c
  unfolding programmed
  programmed_count = length-set c.blocks b _

  pub programmed_geometry : geometry_of (programmed c b p x) ≡ geometry_of c
  programmed_geometry = same_geometry (programmed c b p x) c programmed_shape programmed_count

  -- the block that was written
  pub programmed_here :
      b < block_count c →
      block_at (programmed c b p x) b ≡ record { pages = set (block_at c b).pages p x; floor = p + 1; erases = erase_count_at c b }
  unfolding programmed
  programmed_here h = get_or-set_same c.blocks b _ absent h

  -- every other block
  pub programmed_elsewhere : (k : ℕ) → k ≢ b → block_at (programmed c b p x) k ≡ block_at c k
  unfolding programmed
  programmed_elsewhere k ne = get_or-set_other c.blocks b k _ absent ne

  pub programmed_page : b < block_count c → p < length (block_at c b).pages → page_at (programmed c b p x) b p ≡ x
  programmed_page h k =
      ap (λ (y : Block). get_or y.pages p []) (programmed_here h) ∙ get_or-set_same (block_at c b).pages p x [] k

  pub programmed_page_kept :
      (q : ℕ) → b < block_count c → q ≢ p → page_at (programmed c b p x) b q ≡ page_at c b q
  programmed_page_kept q h ne =
      ap (λ (y : Block). get_or y.pages q []) (programmed_here h) ∙ get_or-set_other (block_at c b).pages p q x [] ne

  pub programmed_page_elsewhere : (k q : ℕ) → k ≢ b → page_at (programmed c b p x) k q ≡ page_at c k q
  programmed_page_elsewhere k q ne = ap (λ (y : Block). get_or y.pages q []) (programmed_elsewhere k ne)

  pub programmed_floor : b < block_count c → floor_at (programmed c b p x) b ≡ p + 1
  programmed_floor h = ap (λ (y : Block). y.floor) (programmed_here h)

  pub programmed_floor_elsewhere : (k : ℕ) → k ≢ b → floor_at (programmed c b p x) k ≡ floor_at c k
  programmed_floor_elsewhere k ne = ap (λ (y : Block). y.floor) (programmed_elsewhere k ne)

  -- a program erases nothing
  pub programmed_erases : (k : ℕ) → b < block_count c → erase_count_at (programmed c b p x) k ≡ erase_count_at c k
  programmed_erases k h =
      ⊎_elim
      (λ (e : k ≡ b). rw e (ap (λ (y : Block). y.erases) (programmed_here h)))
      (λ (ne : k ≢ b). ap (λ (y : Block). y.erases) (programmed_elsewhere k ne))
      (cases_eq k b)

module _ (c : Card) (b : ℕ) where
  pub erased_shape : (erased c b).shape ≡ c.shape
  unfolding erased
  erased_shape = refl

  pub erased_count : block_count (erased c b) ≡ block_count c
  unfolding erased
  erased_count = length-set c.blocks b _

  pub erased_geometry : geometry_of (erased c b) ≡ geometry_of c
  erased_geometry = same_geometry (erased c b) c erased_shape erased_count

  -- the block that was erased
  pub erased_here : b < block_count c → block_at (erased c b) b ≡ blank_block c.shape (erase_count_at c b + 1)
  unfolding erased
  erased_here h = get_or-set_same c.blocks b _ absent h

  -- every other block
  pub erased_elsewhere : (k : ℕ) → k ≢ b → block_at (erased c b) k ≡ block_at c k
  unfolding erased
  erased_elsewhere k ne = get_or-set_other c.blocks b k _ absent ne

  pub erased_page : (q : ℕ) → b < block_count c → q < c.shape.pages → page_at (erased c b) b q ≡ blank_page c.shape
  erased_page q h k =
      ap (λ (y : Block). get_or y.pages q []) (erased_here h) ∙ get_or-replicate c.shape.pages q (blank_page c.shape) [] k

  pub erased_page_elsewhere : (k q : ℕ) → k ≢ b → page_at (erased c b) k q ≡ page_at c k q
  erased_page_elsewhere k q ne = ap (λ (y : Block). get_or y.pages q []) (erased_elsewhere k ne)

  pub erased_floor : b < block_count c → floor_at (erased c b) b ≡ 0
  erased_floor h = ap (λ (y : Block). y.floor) (erased_here h)

  pub erased_floor_elsewhere : (k : ℕ) → k ≢ b → floor_at (erased c b) k ≡ floor_at c k
  erased_floor_elsewhere k ne = ap (λ (y : Block). y.floor) (erased_elsewhere k ne)

  pub erased_erases : b < block_count c → erase_count_at (erased c b) b ≡ erase_count_at c b + 1
  erased_erases h = ap (λ (y : Block). y.erases) (erased_here h)

  pub erased_erases_elsewhere : (k : ℕ) → k ≢ b → erase_count_at (erased c b) k ≡ erase_count_at c k
  erased_erases_elsewhere k ne = ap (λ (y : Block). y.erases) (erased_elsewhere k ne)
