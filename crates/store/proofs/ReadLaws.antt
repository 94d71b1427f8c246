-- What a read answers, test by test.
use Rattle.std.proofs.Common.{◌≡◌, ℕ, ◌<◌, Bool, true, false, cond, ◌&&◌, ltb, is_some, Some, None, Option, ap, ◌∙◌, arith}
use Rattle.std.proofs.lemmas.Bool.Decides.{nat_tests}
use Rattle.rules.specs.State.{State, held}
use Rattle.rules.specs.Calls.{Call, read, Answer, refused, step, unless, read_number, gives}
use Rattle.rules.proofs.Steps.{number_for, step_refused}
use Rattle.store.specs.Calls.{answer_in, page_number, held_in}

-- ---- the block and the page

module _ (o : Option State) (d i n : ℕ) (e : page_number o d i ≡ n) (h : 0 < n) where
  -- a read that is refused for them
  pub read_refused : (len : ℕ) → answer_in o (read d i len) ≡ refused n
  unfolding read_number
  read_refused len = go o e
    where
      go : (x : Option State) → page_number x d i ≡ n → answer_in x (read d i len) ≡ refused n
      go None q = ap refused q
      go (Some s) q =
          let m : number_for s (read d i len) ≡ n = grind (arith, nat_tests) in
          ap (λ (y : Answer × State). y.0) (step_refused s (read d i len) n m h)

pub held_inside : (o : Option State) (s : State) (d i : ℕ) → o ≡ Some s → d < s.plan.data → i < s.pages → held_in o d i ≡ held s d i
held_inside o s d i e h l =
    let inside : (ltb d s.plan.data && ltb i s.pages) ≡ true = grind (arith, nat_tests) in
    ap (λ (x : Option State). held_in x d i) e ∙ ap (λ (b : Bool). cond b (held s d i) None) inside

-- the answer of a store with this state
pub answer_as : (o : Option State) (s : State) (call : Call) (a : Answer) → o ≡ Some s → (step s call).0 ≡ a → answer_in o call ≡ a
answer_as o s call a e h = ap (λ (x : Option State). answer_in x call) e ∙ h

module _ (s : State) (d i len : ℕ) where
  read_by : (n : ℕ) → read_number s d i len ≡ n → (step s (read d i len)).0 ≡ (unless n s (gives s.card (held s d i), s)).0
  unfolding step
  read_by n e = ap (λ (m : ℕ). (unless m s (gives s.card (held s d i), s)).0) e

  module _ (in_plan : d < s.plan.data) where
    module _ (a_page : i < s.pages) where
      pub read_13 : (len ≡ s.card.shape.size → ⊥) → (step s (read d i len)).0 ≡ refused 13
      unfolding read_number
      read_13 ne = read_by 13 (grind (arith, nat_tests))

      pub read_14 : len ≡ s.card.shape.size → held s d i ≡ None → (step s (read d i len)).0 ≡ refused 14
      unfolding read_number
      read_14 e h = let z : is_some (held s d i) ≡ false = ap is_some h in read_by 14 (grind (arith, nat_tests))

      pub read_gives :
          (p : ℕ × ℕ × ℕ) → len ≡ s.card.shape.size → held s d i ≡ Some p → (step s (read d i len)).0 ≡ gives s.card (Some p)
      unfolding read_number
      read_gives p e h =
          let z : is_some (held s d i) ≡ true = ap is_some h in
          read_by 0 (grind (arith, nat_tests)) ∙ ap (gives s.card) h
