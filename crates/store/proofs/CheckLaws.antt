-- The tests of the calls, one after the other.
use Rattle.std.proofs.Common.{◌≡◌, ℕ, ◌*◌, ◌^◌, ◌<◌, ◌≤◌, true, false, eqb, ltb, List, length, Some, None, Ok, Err, Option, Result, sym, refl, ap, ◌∙◌, arith}
use Rattle.std.proofs.lemmas.Bool.Decides.{nat_tests}
use Rattle.rules.specs.Sets.{pages_in}
use Rattle.rules.specs.State.{State}
use Rattle.rules.specs.Calls.{Call, flush, discard, idle, Answer, refused, near_worn, watched, flush_number, discard_number, idle_number}
use Rattle.rules.proofs.Accepted.{can_discard}
use Rattle.rules.proofs.PageSetLaws.{pages_same}
use Rattle.rules.proofs.Steps.{number_for, meant_by, step_meant, step_refused}
use Rattle.store.specs.declared.refusal.StoreRefusal.{StoreRefusal}
use Rattle.store.specs.declared.refusal.StoreRefusal.TheVariants.{Unformatted, NoSuchBlock, NoSuchPage, EmptySet, WrongData, ShortArea, NearWorn, WrongBuffer, NotHeld, PlanOutOfLimits, FlashTooSmall}
use Rattle.store.specs.Calls.{answer_in, state_after, number_in, block_number, Accepted, CheckedAs}
use Rattle.store.specs.Numbers.{number_of}

-- no refusal has the number 0
pub number_pos : (e : StoreRefusal) → 0 < number_of e
number_pos Unformatted = omega arith
number_pos NoSuchBlock = omega arith
number_pos NoSuchPage = omega arith
number_pos EmptySet = omega arith
number_pos WrongData = omega arith
number_pos ShortArea = omega arith
number_pos NearWorn = omega arith
number_pos WrongBuffer = omega arith
number_pos NotHeld = omega arith
number_pos PlanOutOfLimits = omega arith
number_pos FlashTooSmall = omega arith

-- the number of a store with this state
pub number_as : (o : Option State) (s : State) (call : Call) (n : ℕ) → o ≡ Some s → number_for s call ≡ n → number_in o call ≡ n
number_as o s call n e h = ap (λ (x : Option State). number_in x call) e ∙ h

-- ---- the block and the page

module _ (o : Option State) (d : ℕ) where
  pub discard_refused : (g n : ℕ) → block_number o d ≡ n → 0 < n → number_in o (discard d g) ≡ n
  unfolding discard_number
  discard_refused g n e h = go o e
    where
      go : (x : Option State) → block_number x d ≡ n → number_in x (discard d g) ≡ n
      go None q = q
      go (Some s) q = grind (arith, nat_tests)

-- ---- the numbers

module _ (s : State) (d g : ℕ) where
  module _ (in_plan : d < s.plan.data) where
    pub discard_8 : ltb g (2 ^ s.pages) ≡ false → discard_number s d g ≡ 8
    unfolding discard_number
    discard_8 h = grind (arith, nat_tests)

    module _ (fits : ltb g (2 ^ s.pages) ≡ true) where
      pub discard_9 : eqb g 0 ≡ true → discard_number s d g ≡ 9
      unfolding discard_number
      discard_9 h = grind (arith, nat_tests)

      pub discard_0 : eqb g 0 ≡ false → discard_number s d g ≡ 0
      unfolding discard_number
      discard_0 h = grind (arith, nat_tests)

  -- a flush has the tests of its pages first
  flush_pages : (len area n : ℕ) → discard_number s d g ≡ n → 0 < n → flush_number s d g len area ≡ n
  unfolding flush_number discard_number
  flush_pages len area n e h = grind (arith, nat_tests)

  module _ (len area : ℕ) (pages : discard_number s d g ≡ 0) where
    flush_10 : (len ≡ pages_in s.pages g * s.card.shape.size → ⊥) → flush_number s d g len area ≡ 10
    unfolding flush_number discard_number
    flush_10 ne = grind (arith, nat_tests)

    flush_rest : len ≡ pages_in s.pages g * s.card.shape.size → flush_number s d g len area ≡ idle_number s area
    unfolding flush_number discard_number idle_number
    flush_rest e = grind (arith, nat_tests)

module _ (s : State) (area : ℕ) where
  pub idle_11 : area < s.pages * s.card.shape.size → idle_number s area ≡ 11
  unfolding idle_number
  idle_11 h = grind (arith, nat_tests)

  module _ (roomy : s.pages * s.card.shape.size ≤ area) where
    pub idle_12 : near_worn (watched s) s.card ≡ true → idle_number s area ≡ 12
    unfolding idle_number
    idle_12 h = grind (arith, nat_tests)

    pub idle_0 : near_worn (watched s) s.card ≡ false → idle_number s area ≡ 0
    unfolding idle_number
    idle_0 h = grind (arith, nat_tests)

-- ---- the tests of a flush

module _ (o : Option State) (d g : ℕ) (bytes : List ℕ) (area : ℕ) where
  pub flush_refused_pages : (n : ℕ) → number_in o (discard d g) ≡ n → 0 < n → number_in o (flush d g bytes area) ≡ n
  flush_refused_pages n e h = go o e
    where
      go : (x : Option State) → number_in x (discard d g) ≡ n → number_in x (flush d g bytes area) ≡ n
      go None q = q
      go (Some s) q = flush_pages s d g (length bytes) area n q h

  module _ (s : State) (is : o ≡ Some s) (pages : discard_number s d g ≡ 0) where
    pub flush_refused_data : (length bytes ≡ pages_in s.pages g * s.card.shape.size → ⊥) → number_in o (flush d g bytes area) ≡ 10
    flush_refused_data ne = number_as o s (flush d g bytes area) 10 is (flush_10 s d g (length bytes) area pages ne)

    module _ (len : length bytes ≡ pages_in s.pages g * s.card.shape.size) where
      pub flush_as_idle : number_in o (flush d g bytes area) ≡ number_in o (idle area)
      flush_as_idle = number_as o s (flush d g bytes area) _ is (flush_rest s d g (length bytes) area pages len) ∙ sym (ap (λ (x : Option State). number_in x (idle area)) is)

      pub flush_number_lem : number_for s (flush d g bytes area) ≡ number_for s (idle area)
      flush_number_lem = flush_rest s d g (length bytes) area pages len

-- a flush of the right length passes the tests of an idle round
pub checked_as_lem :
    {T : Type 0} (r : Result T StoreRefusal) (o : Option State) (s : State) (d g : ℕ) (bytes : List ℕ) (area : ℕ) → o ≡ Some s → discard_number s d g ≡ 0 →
    length bytes ≡ pages_in s.pages g * s.card.shape.size → CheckedAs r o (idle area) → CheckedAs r o (flush d g bytes area)
checked_as_lem (Ok x) o s d g bytes area is pages len h =
    let same : s ≡ h.0 = let e = h.1.in_force.is in cc in (
      h.0,
      record { in_force = h.1.in_force; passed = rw (← same) (flush_number_lem o d g bytes area s is pages len) ∙ h.1.passed },
    )
checked_as_lem (Err e) o s d g bytes area is pages len h = flush_as_idle o d g bytes area s is pages len ∙ h

-- a set that passes its tests has as many pages as bits
pub pages_counted :
    (s : State) (d g n : ℕ) → discard_number s d g ≡ 0 → s.pages ≤ 64 → n ≡ pages_in 64 g → n ≡ pages_in s.pages g
pages_counted s d g n e few h = h ∙ pages_same s.pages 64 g (can_discard s d g e).fits few

-- ---- what a refused and an accepted call answers and leaves

module _ (o : Option State) (call : Call) where
  pub refused_answer : (n : ℕ) → number_in o call ≡ n → 0 < n → (answer_in o call ≡ refused n) × (state_after o call ≡ o)
  refused_answer n e h = go o e
    where
      go : (x : Option State) → number_in x call ≡ n → (answer_in x call ≡ refused n) × (state_after x call ≡ x)
      go None q = (ap refused q, refl)
      go (Some s) q =
          let r = step_refused s call n q h in
          (ap (λ (y : Answer × State). y.0) r, ap (λ (y : Answer × State). Some y.1) r)

  pub accepted_answer : (s : State) → Accepted o call s → (answer_in o call ≡ (meant_by s call).0) × (state_after o call ≡ Some (meant_by s call).1)
  accepted_answer s a =
      let r = step_meant s call a.passed in
      let e = a.in_force.is in (
        ap (λ (x : Option State). answer_in x call) e ∙ ap (λ (y : Answer × State). y.0) r,
        ap (λ (x : Option State). state_after x call) e ∙ ap (λ (y : Answer × State). Some y.1) r,
      )
