-- The blocks of a flash checked one after the other: the flash stays sound, and the summary stays small.
use Rattle.std.proofs.Common.{◌≡◌, ℕ, zero, suc, ◌+◌, ◌*◌, ◌<◌, ◌≤◌, List, ◌++◌, length, set, sym, refl, ap, ◌∙◌, add-one, arith}
use Rattle.std.proofs.lemmas.List.{length-set, set-append_left}
use Rattle.std.proofs.lemmas.Bool.Decides.{nat_tests}
use Rattle.flash.specs.Meaning.{Card, block_count, floor_at, erased, Sound}
use Rattle.flash.proofs.CardLaws.{erased_shape, erased_count, erased_floor}
use Rattle.flash.proofs.RefusalLaws.{CanErase}
use Rattle.flash.proofs.SoundLaws.{erased_sound}
use Rattle.bringup.specs.declared.report.BlockOutcome.{BlockOutcome}
use Rattle.bringup.specs.declared.report.BlockOutcome.TheVariants.{Worn, Programmed, ErasedFirst}
use Rattle.bringup.specs.declared.report.Summary.{Summary}
use Rattle.bringup.specs.Checked.{patterned, outcome_of, checked_as, checked_below, noted_below, added_as, summary_below, Small}
use Rattle.bringup.proofs.CheckLaws.{patterning}

-- a sound card with the same measures
pub record Alike (c d : Card) : Type 0 where
  pub shape : d.shape ≡ c.shape
  pub count : block_count d ≡ block_count c
  pub sound : Sound d

alike_then : (c d e : Card) → Alike c d → Alike d e → Alike c e
alike_then c d e a b = record { shape = b.shape ∙ a.shape; count = b.count ∙ a.count; sound = b.sound }

-- a blank block programmed with the pattern
alike_patterned : (c : Card) (b n : ℕ) → Sound c → b < block_count c → floor_at c b ≡ 0 → n ≤ c.shape.pages → Alike c (patterned c b n)
alike_patterned c b n s h z l =
    let p = patterning c b s h z n l in
    record { shape = p.shape; count = p.count; sound = p.sound }

-- one block, whatever its outcome
module _ (c : Card) (b : ℕ) (s : Sound c) (h : b < block_count c) where
  alike_as : (o : BlockOutcome) → o ≡ outcome_of c b → Alike c (checked_as o c b)
  alike_as Worn e = record { shape = refl; count = refl; sound = s }
  alike_as Programmed e = alike_patterned c b c.shape.pages s h (grind (arith, nat_tests)) (omega arith)
  alike_as ErasedFirst e =
      let can : CanErase c b = record { block = h; below = grind (arith, nat_tests) } in
      let d : Card = erased c b in
      let t : Sound d = erased_sound c b can s in
      let i : b < block_count d = rw (erased_count c b) h in
      let a : Alike c d = record { shape = erased_shape c b; count = erased_count c b; sound = t } in
      alike_then c d (patterned d b c.shape.pages) a
      (alike_patterned d b c.shape.pages t i (erased_floor c b h) (omega (arith, ap (λ x. x.pages) (erased_shape c b))))

  pub alike_checked : Alike c (checked_as (outcome_of c b) c b)
  alike_checked = alike_as (outcome_of c b) refl

pub alike_below : (c : Card) (n : ℕ) → Sound c → n ≤ block_count c → Alike c (checked_below n c)
unfolding checked_below
alike_below c zero s h = record { shape = refl; count = refl; sound = s }
alike_below c (suc n) s h =
    let a = alike_below c n s (omega arith) in
    alike_then c (checked_below n c) (checked_as (outcome_of (checked_below n c) n) (checked_below n c) n) a
    (alike_checked (checked_below n c) n a.sound (rw a.count h))

-- the next block can be checked
pub block_ready : (c d : Card) (n : ℕ) → Sound c → n < block_count c → d ≡ checked_below n c → n < block_count d
block_ready c d n s h e = let a = alike_below c n s (omega arith) in rw e (rw a.count h)

-- the outcomes noted in the front of a table
noted_length : (n : ℕ) (c : Card) (table : List BlockOutcome) → length (noted_below n c table) ≡ length table
unfolding noted_below
noted_length zero c table = refl
noted_length (suc n) c table =
    length-set (noted_below n c table) n (outcome_of (checked_below n c) n) ∙ noted_length n c table

pub noted_front :
    (n : ℕ) (c : Card) (front rest : List BlockOutcome) → n ≤ length front → noted_below n c front ++ rest ≡ noted_below n c (front ++ rest)
unfolding noted_below
noted_front zero c front rest h = refl
noted_front (suc n) c front rest h =
    let o = outcome_of (checked_below n c) n in
    sym (set-append_left (noted_below n c front) rest n o (omega (arith, noted_length n c front)))
    ∙ ap (λ (xs : List BlockOutcome). set xs n o) (noted_front n c front rest (omega arith))

-- what the summary of n blocks can come to
pub record Few (n : ℕ) (s : Summary) : Type 0 where
  pub blocks_few : s.blocks ≤ n
  pub worn_few : s.worn ≤ n
  pub erased_few : s.erased ≤ n
  pub programmed_few : s.programmed ≤ 64 * n
  pub mismatched_none : s.mismatched ≡ 0

few_added : (n pages : ℕ) (o : BlockOutcome) (s : Summary) → pages ≤ 64 → Few n s → Few (suc n) (added_as o pages 0 s)
few_added n pages Worn s h f = record { blocks_few = omega (arith, f); worn_few = omega (arith, f); erased_few = omega (arith, f); programmed_few = omega (arith, f); mismatched_none = omega (arith, f) }
few_added n pages Programmed s h f = record { blocks_few = omega (arith, f); worn_few = omega (arith, f); erased_few = omega (arith, f); programmed_few = omega (arith, f); mismatched_none = omega (arith, f) }
few_added n pages ErasedFirst s h f = record { blocks_few = omega (arith, f); worn_few = omega (arith, f); erased_few = omega (arith, f); programmed_few = omega (arith, f); mismatched_none = omega (arith, f) }

few_below : (c : Card) (n : ℕ) → c.shape.pages ≤ 64 → Few n (summary_below n c)
unfolding summary_below
few_below c zero h = record { blocks_few = omega arith; worn_few = omega arith; erased_few = omega arith; programmed_few = omega arith; mismatched_none = refl }
few_below c (suc n) h = few_added n c.shape.pages (outcome_of (checked_below n c) n) (summary_below n c) h (few_below c n h)

pub small_below : (c : Card) (n : ℕ) (s : Summary) → s ≡ summary_below n c → c.shape.pages ≤ 64 → n < 256 → Small s
small_below c n s e h l =
    let f = few_below c n h in
    rw e (record { blocks_low = omega (arith, f); worn_low = omega (arith, f); erased_low = omega (arith, f); programmed_low = omega (arith, f); mismatched_low = omega (arith, f) })

-- one block more
module _ (c d e : Card) (n : ℕ) (o : BlockOutcome) (is : d ≡ checked_below n c) (tells_it : o ≡ outcome_of d n) where
  outcome_is : o ≡ outcome_of (checked_below n c) n
  outcome_is = tells_it ∙ ap (λ x. outcome_of x n) is

  pub checked_more : e ≡ checked_as o d n → e ≡ checked_below (n + 1) c
  unfolding checked_below
  checked_more h = rw add-one (h ∙ ap (λ x. checked_as o x n) is ∙ ap (λ x. checked_as x (checked_below n c) n) outcome_is)

  pub noted_more : (t u : List BlockOutcome) → t ≡ noted_below n c u → set t n o ≡ noted_below (n + 1) c u
  unfolding noted_below
  noted_more t u h = rw add-one (ap (λ x. set x n o) h ∙ ap (λ x. set (noted_below n c u) n x) outcome_is)

  pub added_more :
      (s t : Summary) (pages wrong : ℕ) → s ≡ summary_below n c → pages ≡ c.shape.pages → wrong ≡ 0 →
      t ≡ added_as o pages wrong s → t ≡ summary_below (n + 1) c
  unfolding summary_below
  added_more s t pages wrong h p w r =
      rw add-one (r ∙ ap (λ x. added_as o pages wrong x) h ∙ ap (λ x. added_as x pages wrong (summary_below n c)) outcome_is
      ∙ ap (λ x. added_as (outcome_of (checked_below n c) n) x wrong (summary_below n c)) p
      ∙ ap (λ x. added_as (outcome_of (checked_below n c) n) c.shape.pages x (summary_below n c)) w)
