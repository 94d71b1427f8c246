-- Tests for blank bytes and for the first fault: what they find, and the steps of the loop that makes them.
use Rattle.std.proofs.Common.{◌≡◌, ℕ, zero, suc, ◌+◌, ◌-◌, ◌<◌, ◌≤◌, true, false, eqb, List, [], ◌∷◌, map, length, replicate, is_some, Some, None, Option, sym, refl, ap, ◌∙◌, ⊎_elim, arith}
use Rattle.std.specs.List.{range_with_len}
use Rattle.std.proofs.lemmas.Bool.{cases_eq, and_parts, eqb-true}
use Rattle.flash.specs.declared.making.MakingFault.{MakingFault}
use Rattle.chips.specs.Image.{all_blank, first_fault}

-- bytes that are all 255
pub blank_is : (xs : List ℕ) → all_blank xs ≡ true → xs ≡ replicate (length xs) 255
blank_is [] e = refl
blank_is (x ∷ xs) e =
    let q = and_parts (eqb x 255) (all_blank xs) e in
    let a : x ≡ 255 = eqb-true x 255 q.0 in
    let b : xs ≡ replicate (length xs) 255 = blank_is xs q.1 in
    cc

-- and the other way round
pub is_blank : (n : ℕ) → all_blank (replicate n 255) ≡ true
is_blank zero = refl
is_blank (suc n) = is_blank n

-- there is no fault where none is some
pub none_is : (o : Option MakingFault) → is_some o ≡ false → o ≡ None
none_is None e = refl
none_is (Some fault) e = cc

-- a test before others
module _ (o : Option MakingFault) (tests : List (Option MakingFault)) where
  pub first_some : (fault : MakingFault) → Some fault ≡ o → Some fault ≡ first_fault (o ∷ tests)
  first_some fault e = ap (λ (x : Option MakingFault). first_fault (x ∷ tests)) e

  pub after_none : None ≡ o → first_fault tests ≡ first_fault (o ∷ tests)
  after_none e = ap (λ (x : Option MakingFault). first_fault (x ∷ tests)) e

  pub none_both : o ≡ None → first_fault tests ≡ None → first_fault (o ∷ tests) ≡ None
  none_both e f = sym (after_none (sym e)) ∙ f

pub both_none : (o : Option MakingFault) (tests : List (Option MakingFault)) → first_fault (o ∷ tests) ≡ None → (o ≡ None) × (first_fault tests ≡ None)
both_none None tests e = (refl, e)
both_none (Some fault) tests e = cc

-- the tests of all places from one on
module _ (f : ℕ → Option MakingFault) where
  pub each_none : (i n : ℕ) → first_fault (map f (range_with_len i n)) ≡ None → (k : ℕ) → i ≤ k → k < i + n → f k ≡ None
  each_none i zero e k h l = absurd (omega arith)
  each_none i (suc n) e k h l =
      let q = both_none (f i) (map f (range_with_len (i + 1) n)) e in
      ⊎_elim
      (λ (t : k ≡ i). ap f t ∙ q.0)
      (λ (t : k ≡ i → ⊥). each_none (i + 1) n q.1 k (omega arith) (omega arith))
      (cases_eq k i)

  pub none_each : (i n : ℕ) → ((k : ℕ) → i ≤ k → k < i + n → f k ≡ None) → first_fault (map f (range_with_len i n)) ≡ None
  none_each i zero h = refl
  none_each i (suc n) h =
      none_both (f i) (map f (range_with_len (i + 1) n)) (h i (omega arith) (omega arith))
      (none_each (i + 1) n (λ k l u. h k (omega arith) (omega arith)))

  -- a loop over the places up to an end: what is left of the tests
  module _ (i end : ℕ) where
    one_more : i < end → first_fault (f i ∷ map f (range_with_len (i + 1) (end - (i + 1)))) ≡ first_fault (map f (range_with_len i (end - i)))
    one_more h = ap (λ n. first_fault (map f (range_with_len i n))) (let d : suc (end - (i + 1)) ≡ end - i = omega arith in d)

    pub first_more : i < end → None ≡ f i → first_fault (map f (range_with_len (i + 1) (end - (i + 1)))) ≡ first_fault (map f (range_with_len i (end - i)))
    first_more h e = after_none (f i) (map f (range_with_len (i + 1) (end - (i + 1)))) e ∙ one_more h

    pub first_here : (fault : MakingFault) → i < end → Some fault ≡ f i → Some fault ≡ first_fault (map f (range_with_len i (end - i)))
    first_here fault h e = first_some (f i) (map f (range_with_len (i + 1) (end - (i + 1)))) fault e ∙ one_more h

    pub first_end : end ≤ i → None ≡ first_fault (map f (range_with_len i (end - i)))
    first_end h = ap (λ n. first_fault (map f (range_with_len i n))) (let d : 0 ≡ end - i = omega arith in d)
