-- What holds of every flash: calls that change one block, calls on a block that does not exist, the measures and the soundness of a card.
use Rattle.std.proofs.Common.{◌≡◌, ℕ, ◌+◌, ◌<◌, ◌≤◌, List, set, Some, Ok, Err, Option, Result, IsErrAnd, sym, refl, ap, ◌∙◌, arith}
use Rattle.std.proofs.lemmas.List.{get_or_past}
use Rattle.std.proofs.lemmas.Bool.Decides.{nat_tests}
use Rattle.flash.specs.declared.geometry.Geometry.{Geometry}
use Rattle.flash.specs.Meaning.{Card, Shape, Block, absent, blank_block, block_at, block_count, geometry_of, with_block, programmed, erased, Sound, SoundBlock}
use Rattle.flash.specs.declared.refusal.Refusal.{Refusal}
use Rattle.flash.specs.declared.refusal.Refusal.TheVariants.{NoSuchBlock}
use Rattle.flash.specs.Numbers.{number_of}
use Rattle.flash.specs.Refusals.{Outcome, read_refusal, program_refusal, erase_refusal}

-- a call that changes one block, by what stands there alone
pub record Local (call : Card → ℕ → Card) : Type 0 where
  pub change : Shape → Block → Block
  pub is : (c : Card) (b : ℕ) → call c b ≡ with_block c b (change c.shape (block_at c b))

pub program_local : (p : ℕ) (x : List ℕ) → Local (λ c b. programmed c b p x)
unfolding programmed
program_local p x =
    record { change = λ s y. record { pages = set y.pages p x; floor = p + 1; erases = y.erases }; is = λ c b. refl }

pub erase_local : Local erased
unfolding erased
erase_local = record { change = λ s y. blank_block s (y.erases + 1); is = λ c b. refl }

-- calls on a block that does not exist
module _ (c : Card) (b : ℕ) (h : block_count c ≤ b) where
  pub missing_block : absent ≡ block_at c b
  missing_block = sym (get_or_past c.blocks b absent h)

  pub missing_read : (p n : ℕ) → read_refusal c b p n ≡ Some 17
  missing_read p n = grind (arith, nat_tests)

  pub missing_program : (p n : ℕ) → program_refusal c b p n ≡ Some 17
  missing_program p n = grind (arith, nat_tests)

  pub missing_erase : erase_refusal c b ≡ Some 17
  missing_erase = grind (arith, nat_tests)

-- a refusal of such a block is handed on
pub no_such_block :
    {X T : Type 0} (r : Result T Refusal) (e : Refusal) (why : Option ℕ) (was meant : X) →
    IsErrAnd r (λ x. x ≡ e) → e ≡ NoSuchBlock → why ≡ Some 17 → Outcome r why was meant was
no_such_block (Ok x) e why was meant h missing is = absurd h
no_such_block (Err x) e why was meant h missing is = (is ∙ ap (λ y. Some (number_of y)) (sym (h ∙ missing)), refl)

-- measures with another number of blocks
abbrev pub with_count : ℕ → Geometry → Geometry
with_count n g = record { blocks = n; pages = g.pages; size = g.size; endurance = g.endurance }

-- the measures of a card of the same shape and n blocks
pub geometry_with :
    (c d : Card) (g : Geometry) (n : ℕ) → d.shape ≡ c.shape → block_count d ≡ n → g ≡ geometry_of c → with_count n g ≡ geometry_of d
geometry_with c d g n shape count e =
    ap (with_count n) e
    ∙ ap (λ (s : Shape). record { blocks = n; pages = s.pages; size = s.size; endurance = s.endurance }) (sym shape)
    ∙ ap (λ m. with_count m (geometry_of d)) (sym count)

-- a card of the shape of a sound one, of sound blocks, and not of too many
pub sound_of :
    (c d : Card) → d.shape ≡ c.shape → block_count d ≤ 256 → Sound c →
    ((b : ℕ) → b < block_count d → SoundBlock c.shape (block_at d b)) → Sound d
sound_of c d e few s each =
    record {
      pages_low = rw e s.pages_low;
      pages_high = rw e s.pages_high;
      size_low = rw e s.size_low;
      size_high = rw e s.size_high;
      endurance_low = rw e s.endurance_low;
      endurance_high = rw e s.endurance_high;
      blocks_high = few;
      each = λ b h. rw e (each b h);
    }
