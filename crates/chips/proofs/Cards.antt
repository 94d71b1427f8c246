-- Cards whose blocks are made by a function of the place, and what a chip's tests tell of its card.
use Rattle.std.proofs.Common.{◌≡◌, ℕ, ◌+◌, ◌<◌, ◌≤◌, ◌≢◌, List, map, Some, None, Ok, Err, Option, Result, sym, refl, ap, ◌∙◌, arith}
use Rattle.std.specs.List.{range_with_len}
use Rattle.std.specs.Result.{IsErrAnd}
use Rattle.std.proofs.lemmas.List.{get_or_past}
use Rattle.std.proofs.lemmas.List.FromFn.{length-map-range_with_len}
use Rattle.std.proofs.lemmas.Bool.Decides.{nat_tests}
use Rattle.std.proofs.lemmas.Result.{err_from_is_err_and}
use Rattle.flash.specs.declared.geometry.Geometry.{Geometry}
use Rattle.flash.specs.declared.refusal.Refusal.{Refusal}
use Rattle.flash.specs.Numbers.{number_of}
use Rattle.flash.specs.Meaning.{Card, Block, absent, blank_block, blank_card, block_at, block_count, page_at, floor_at, erase_count_at, geometry_of, with_block}
use Rattle.flash.specs.Refusals.{Outcome, read_refusal, why_not_read, why_not_program, why_not_erase}
use Rattle.flash.proofs.RefusalLaws.{CanProgram, CanErase, can_program, can_erase, read_as, program_as, erase_as}
use Rattle.chips.specs.Layout.{span, all_spans, page_place}
use Rattle.chips.proofs.Counting.{counting_at, counting_replicate, counting_set}
use Rattle.chips.proofs.Rows.{rows_apart}

pub same_block :
    (ps qs : List (List ℕ)) (f g c d : ℕ) → ps ≡ qs → f ≡ g → c ≡ d →
    ◌≡◌ {A = Block} (record { pages = ps; floor = f; erases = c }) (record { pages = qs; floor = g; erases = d })
same_block ps qs f g c d e i j = cc

-- the card of these measures whose blocks are made by a function of the place
abbrev pub laid : Geometry → (ℕ → Block) → Card
laid g f =
    record { shape = record { pages = g.pages; size = g.size; endurance = g.endurance }; blocks = map f (range_with_len 0 g.blocks) }

module _ (g : Geometry) (f : ℕ → Block) where
  pub laid_count : block_count (laid g f) ≡ g.blocks
  laid_count = length-map-range_with_len f 0 g.blocks

  pub laid_geometry : g ≡ geometry_of (laid g f)
  laid_geometry =
      ap (λ n. record { blocks = n; pages = g.pages; size = g.size; endurance = g.endurance }) (sym laid_count)

  pub laid_here : (b : ℕ) → b < g.blocks → block_at (laid g f) b ≡ f b
  laid_here b h = counting_at f g.blocks b absent h

  pub laid_absent : (b : ℕ) → g.blocks ≤ b → block_at (laid g f) b ≡ absent
  laid_absent b h = get_or_past (map f (range_with_len 0 g.blocks)) b absent (rw laid_count h)

  -- one block is another
  pub laid_with :
      (f' : ℕ → Block) (b : ℕ) (x : Block) → b < g.blocks → f' b ≡ x → ((k : ℕ) → k < g.blocks → k ≢ b → f' k ≡ f k) →
      laid g f' ≡ with_block (laid g f) b x
  laid_with f' b x h e same =
      ap (λ (bs : List Block). record { shape = (laid g f).shape; blocks = bs }) (counting_set f f' g.blocks b x h e same)

  -- each block is blank
  pub laid_blank : ((b : ℕ) → b < g.blocks → f b ≡ blank_block (blank_card g).shape 0) → laid g f ≡ blank_card g
  laid_blank h =
      ap (λ (bs : List Block). record { shape = (laid g f).shape; blocks = bs }) (counting_replicate f g.blocks (blank_block (blank_card g).shape 0) h)

-- a call that is refused tells why, and leaves what was
pub refused :
    {X T : Type 0} (r : Result T Refusal) (e : Refusal) (why told : Option ℕ) (was meant : X) →
    IsErrAnd r (λ y. y ≡ e) → why ≡ told → Some (number_of e) ≡ told → Outcome r why was meant was
refused r e why told was meant err same tells =
    let p = err_from_is_err_and r err in
    rw (p.1, p.2) (same ∙ sym tells, refl)

-- what the tests tell, made with the card's measures and the block's floor or count
module _ (c : Card) (g : Geometry) (same : g ≡ geometry_of c) (b : ℕ) where
  pub can_program_as : (p n f : ℕ) → f ≡ floor_at c b → None ≡ why_not_program g f b p n → CanProgram c b p n
  can_program_as p n f i e = can_program c b p n (program_as c g same b p n f i ∙ sym e)

  pub can_erase_as : (k : ℕ) → k ≡ erase_count_at c b → None ≡ why_not_erase g k b → CanErase c b
  can_erase_as k i e = can_erase c b (erase_as c g same b k i ∙ sym e)

-- a page that may be read lies within the memory, and the buffer is as long
module _ (header : ℕ) (g : Geometry) (b p n : ℕ) (e : None ≡ why_not_read g b p n) where
  pub read_there : b < g.blocks
  read_there = grind (arith, nat_tests)

  pub read_page : p < g.pages
  read_page = grind (arith, nat_tests)

  pub read_long : n ≡ g.size
  read_long = grind (arith, nat_tests)

  pub read_within : page_place header g b p + n ≤ all_spans header g
  read_within = omega (arith, read_long, rows_apart g.size p g.pages read_page, rows_apart (span header g) b g.blocks read_there)

-- a page that is read out of a memory is the card's, where it lies there
pub read_through :
    {T : Type 0} (c : Card) (g : Geometry) (b p n : ℕ) (r : Result T Refusal) (old found new : List ℕ) → g ≡ geometry_of c →
    (b < g.blocks → p < g.pages → found ≡ page_at c b p) → Outcome r (why_not_read g b p n) old found new →
    Outcome r (read_refusal c b p n) old (page_at c b p) new
read_through c g b p n (Ok x) old found new same is (why, gives) =
    (read_as c g same b p n ∙ why, gives ∙ is (read_there 0 g b p n (sym why)) (read_page 0 g b p n (sym why)))
read_through c g b p n (Err x) old found new same is (why, keeps) = (read_as c g same b p n ∙ why, keeps)
