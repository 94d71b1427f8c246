-- The search for a page, by what was passed: slots and blocks that do not hold it, up to one that does or to the end.
use Rattle.std.proofs.Common.{◌≡◌, ℕ, zero, suc, ◌+◌, ◌<◌, Bool, true, false, cond, eqb, List, [], ◌∷◌, length, get_or, Some, None, Option, sym, refl, ap, ◌∙◌, add-zero, arith}
use Rattle.std.proofs.lemmas.Bool.{ne_eqb, eq-eqb, and_left, and_right, and_from}
use Rattle.rules.specs.Sets.{has}
use Rattle.rules.specs.State.{State, Slot, live, dead, is_at, one_on, slot_for, place_for, held}

-- ---- one slot

pub at_true : (d i e j : ℕ) → e ≡ d → j ≡ i → is_at d i (live e j) ≡ true
unfolding is_at
at_true d i e j p q = and_from (eqb d e) (eqb i j) (eq-eqb d e (sym p)) (eq-eqb i j (sym q))

pub at_other_block : (d i e j : ℕ) → (e ≡ d → ⊥) → is_at d i (live e j) ≡ false
unfolding is_at
at_other_block d i e j p = and_left (eqb d e) (eqb i j) (ne_eqb d e (λ q. p (sym q)))

pub at_other_page : (d i e j : ℕ) → (j ≡ i → ⊥) → is_at d i (live e j) ≡ false
unfolding is_at
at_other_page d i e j p = and_right (eqb d e) (eqb i j) (ne_eqb i j (λ q. p (sym q)))

pub at_dead : (d i : ℕ) → is_at d i dead ≡ false
unfolding is_at
at_dead d i = refl

-- ---- the slots of a block

module _ (d i : ℕ) where
  -- what the search makes of a first slot
  try_first : Option ℕ → Bool → Option ℕ
  try_first rest here = cond here (Some 0) (one_on rest)

  pub slot_found :
      (xs : List Slot) (n : ℕ) → n < length xs → ((k : ℕ) → k < n → is_at d i (get_or xs k dead) ≡ false) →
      is_at d i (get_or xs n dead) ≡ true → slot_for d i xs ≡ Some n
  unfolding slot_for try_first
  slot_found [] n h p e = absurd (omega arith)
  slot_found (x ∷ xs) zero h p e = ap (try_first (slot_for d i xs)) e
  slot_found (x ∷ xs) (suc n) h p e =
      ap (try_first (slot_for d i xs)) (p 0 (omega arith)) ∙ ap one_on (slot_found xs n (omega arith) (λ k l. p (suc k) (omega arith)) e)

  pub slot_none :
      (xs : List Slot) → ((k : ℕ) → k < length xs → is_at d i (get_or xs k dead) ≡ false) → slot_for d i xs ≡ None
  unfolding slot_for try_first
  slot_none [] p = refl
  slot_none (x ∷ xs) p =
      ap (try_first (slot_for d i xs)) (p 0 (omega arith)) ∙ ap one_on (slot_none xs (λ k l. p (suc k) (omega arith)))

  -- ---- the blocks of the region

  -- what the search makes of a first block, number b
  try_block : ℕ → Option (ℕ × ℕ) → Option ℕ → Option (ℕ × ℕ)
  try_block b next o = elim o [ Some k ↦ Some (b, k) | None ↦ next ]

  pub place_found :
      (b : ℕ) (t : List (List Slot)) (n k : ℕ) → n < length t → ((r : ℕ) → r < n → slot_for d i (get_or t r []) ≡ None) →
      slot_for d i (get_or t n []) ≡ Some k → place_for d i b t ≡ Some (b + n, k)
  unfolding place_for try_block
  place_found b [] n k h p e = absurd (omega arith)
  place_found b (x ∷ t) zero k h p e =
      ap (try_block b (place_for d i (b + 1) t)) e ∙ ap (λ (m : ℕ). Some (m, k)) (sym (add-zero b))
  place_found b (x ∷ t) (suc n) k h p e =
      let z : b + 1 + n ≡ b + suc n = omega arith in
      ap (try_block b (place_for d i (b + 1) t)) (p 0 (omega arith))
      ∙ place_found (b + 1) t n k (omega arith) (λ r l. p (suc r) (omega arith)) e
      ∙ ap (λ (m : ℕ). Some (m, k)) z

  pub place_none :
      (b : ℕ) (t : List (List Slot)) → ((r : ℕ) → r < length t → slot_for d i (get_or t r []) ≡ None) → place_for d i b t ≡ None
  unfolding place_for try_block
  place_none b [] p = refl
  place_none b (x ∷ t) p =
      ap (try_block b (place_for d i (b + 1) t)) (p 0 (omega arith)) ∙ place_none (b + 1) t (λ r l. p (suc r) (omega arith))

-- ---- both maps

-- a place in the region, as the rules tell it
abbrev pub in_region : Option (ℕ × ℕ) → Option (ℕ × ℕ × ℕ)
in_region o = elim o [ Some p ↦ Some (1, p.0, p.1) | None ↦ None ]

-- the answer by the test of the block map
held_from : ℕ → ℕ → Option (ℕ × ℕ) → Bool → Option (ℕ × ℕ × ℕ)
held_from d i o valid = elim valid [ true ↦ Some (2, d, i) | false ↦ in_region o ]

pub held_data : (s : State) (d i : ℕ) → has (get_or s.sets d 0) i ≡ true → held s d i ≡ Some (2, d, i)
unfolding held held_from
held_data s d i e = ap (held_from d i (place_for d i s.plan.data s.table)) e

pub held_region :
    (s : State) (d i : ℕ) (o : Option (ℕ × ℕ)) → has (get_or s.sets d 0) i ≡ false →
    place_for d i s.plan.data s.table ≡ o → held s d i ≡ in_region o
unfolding held held_from
held_region s d i o e f = ap (held_from d i (place_for d i s.plan.data s.table)) e ∙ ap in_region f
