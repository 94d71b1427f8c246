-- Pages that are held no more, one after the other: where the one place that holds a page is cleared, the page is dropped, and pages that are
-- dropped one by one are dropped together.
use Rattle.std.proofs.Common.{◌≡◌, ℕ, zero, suc, ◌+◌, ◌^◌, ◌<◌, ◌≤◌, Bool, true, false, cond, not, ◌&&◌, ◌||◌, eqb, ltb, List, [], ◌∷◌, map, length, get_or, set, Some, None, count_by, Option, sym, refl, ap, ◌∙◌, subst, ap₂, inl, inr, arith}
use mathlib.Core.Bool.{and-true, or-false}
use Rattle.std.proofs.lemmas.List.{set-set, set-get_or, set_past, get_or-set_same}
use Rattle.std.proofs.lemmas.List.Sums.{sum_by-cons}
use Rattle.std.proofs.lemmas.List.Elements.{All-get_or}
use Rattle.std.proofs.lemmas.Bool.{cases_Bool, cases_eq, cases_lt, eqb-true, ne_eqb, lt-ltb, le-ltb, and_left, and_right}
use Rattle.std.proofs.lemmas.Bool.Decides.{nat_tests}
use Rattle.rules.specs.Sets.{has, set_of}
use Rattle.rules.specs.State.{Slot, live, dead, State, is_at, one_on, slot_for, place_for, held}
use Rattle.rules.specs.Moves.{retire, retired, among, dropped}
use Rattle.rules.specs.Ready.{Orderly}
use Rattle.rules.proofs.SetLaws.{has_set_of, has_high, has_none, set_of_below}
use Rattle.rules.proofs.PageSetLaws.{set_is}
use Rattle.rules.proofs.Places.{one_at, named_in}
use Rattle.rules.proofs.OrderlyLaws.{in_set, named_by}

-- ---- one slot

module _ (d i : ℕ) where
  -- the slots of page i of block d die
  abbrev one_page : Slot → Slot
  one_page = retire (among d (eqb i))

  turned_round : (e : ℕ) → eqb d e ≡ eqb e d
  turned_round e = grind (arith, nat_tests)

  dies : (x : Slot) → is_at d i x ≡ true → one_page x ≡ dead
  unfolding is_at retire
  dies (live e j) h = ap (λ (b : Bool). cond (b && eqb i j) dead (live e j)) (sym (turned_round e)) ∙ ap (λ (b : Bool). cond b dead (live e j)) h
  dies dead h = refl

  stays : (x : Slot) → is_at d i x ≡ false → one_page x ≡ x
  unfolding is_at retire
  stays (live e j) h = ap (λ (b : Bool). cond (b && eqb i j) dead (live e j)) (sym (turned_round e)) ∙ ap (λ (b : Bool). cond b dead (live e j)) h
  stays dead h = refl

  -- ---- the slots of a block

  one_true : (x : Slot) → is_at d i x ≡ true → one_at d i x ≡ 1
  one_true x h = ap (λ (b : Bool). cond b 1 0) h

  one_false : (x : Slot) → is_at d i x ≡ false → one_at d i x ≡ 0
  one_false x h = ap (λ (b : Bool). cond b 1 0) h

  -- what the search makes of a first slot
  try_first : Option ℕ → Bool → Option ℕ
  try_first rest here = cond here (Some 0) (one_on rest)

  -- a block of which no slot names the page
  row_none : (xs : List Slot) → named_by d i xs ≡ 0 → map one_page xs ≡ xs
  row_none [] h = refl
  row_none (x ∷ xs) h =
      let c = sum_by-cons (one_at d i) x xs in
      let no : is_at d i x ≡ false =
      elim (cases_Bool (is_at d i x)) [
        | inl e ↦ absurd (let one = one_true x e in omega arith)
        | inr e ↦ e
      ] in
      ap₂ (λ y ys. y ∷ ys) (stays x no) (row_none xs (omega arith))

  -- slot k is the one that names it
  record OneIn (xs : List Slot) (k : ℕ) : Type 0 where
    named : 1 ≤ named_by d i xs
    dies_alone : map one_page xs ≡ set xs k dead

  -- a block of which at most one slot names it, and one does
  row_one : (xs : List Slot) (k : ℕ) → named_by d i xs ≤ 1 → slot_for d i xs ≡ Some k → OneIn xs k
  unfolding slot_for try_first
  row_one [] k h e = absurd (let z : ◌≡◌ {A = ℕ} 0 1 = cc in omega arith)
  row_one (x ∷ xs) k h e = go (is_at d i x) refl (slot_for d i xs) refl (row_one xs)
    where
      c : named_by d i (x ∷ xs) ≡ one_at d i x + named_by d i xs
      c = sum_by-cons (one_at d i) x xs

      go :
          (b : Bool) → is_at d i x ≡ b → (o : Option ℕ) → slot_for d i xs ≡ o →
          ((n : ℕ) → named_by d i xs ≤ 1 → slot_for d i xs ≡ Some n → OneIn xs n) → OneIn (x ∷ xs) k
      go true q o p rest =
          let f : ◌≡◌ {A = Option ℕ} (Some 0) (Some k) = sym (ap (try_first (slot_for d i xs)) q) ∙ e in
          let z : 0 ≡ k = cc in
          let one = one_true x q in
          subst (OneIn (x ∷ xs)) z
          (record { named = omega (arith, c); dies_alone = ap₂ (λ y ys. y ∷ ys) (dies x q) (row_none xs (omega (arith, c))) })
      go false q None p rest =
          let f : ◌≡◌ {A = Option ℕ} None (Some k) = sym (ap (try_first (slot_for d i xs)) q ∙ ap one_on p) ∙ e in
          absurd (let z : ◌≡◌ {A = ℕ} 0 1 = cc in omega arith)
      go false q (Some n) p rest =
          let f : Some (suc n) ≡ Some k = sym (ap (try_first (slot_for d i xs)) q ∙ ap one_on p) ∙ e in
          let z : suc n ≡ k = cc in
          let none = one_false x q in
          let r = rest n (omega (arith, c)) p in
          subst (OneIn (x ∷ xs)) z
          (record { named = omega (arith, c, r.named); dies_alone = ap₂ (λ y ys. y ∷ ys) (stays x q) r.dies_alone })

  row_unfound : (xs : List Slot) → slot_for d i xs ≡ None → named_by d i xs ≡ 0
  unfolding slot_for try_first
  row_unfound [] e = refl
  row_unfound (x ∷ xs) e = go (is_at d i x) refl (slot_for d i xs) refl (row_unfound xs)
    where
      c : named_by d i (x ∷ xs) ≡ one_at d i x + named_by d i xs
      c = sum_by-cons (one_at d i) x xs

      go :
          (b : Bool) → is_at d i x ≡ b → (o : Option ℕ) → slot_for d i xs ≡ o → (slot_for d i xs ≡ None → named_by d i xs ≡ 0) →
          named_by d i (x ∷ xs) ≡ 0
      go true q o p rest =
          let f : ◌≡◌ {A = Option ℕ} (Some 0) None = sym (ap (try_first (slot_for d i xs)) q) ∙ e in
          absurd (let z : ◌≡◌ {A = ℕ} 0 1 = cc in omega arith)
      go false q None p rest = omega (arith, c, one_false x q, rest p)
      go false q (Some n) p rest =
          let f : ◌≡◌ {A = Option ℕ} (Some (suc n)) None = sym (ap (try_first (slot_for d i xs)) q ∙ ap one_on p) ∙ e in
          absurd (let z : ◌≡◌ {A = ℕ} 0 1 = cc in omega arith)

  -- ---- the blocks of the region

  -- what the search makes of a first block, number b
  try_block : ℕ → Option (ℕ × ℕ) → Option ℕ → Option (ℕ × ℕ)
  try_block b next o = elim o [ Some k ↦ Some (b, k) | None ↦ next ]

  table_none : (t : List (List Slot)) → named_in d i t ≡ 0 → retired (among d (eqb i)) t ≡ t
  table_none [] h = refl
  table_none (xs ∷ t) h =
      let c = sum_by-cons (count_by (is_at d i)) xs t in
      ap₂ (λ y ys. y ∷ ys) (row_none xs (omega arith)) (table_none t (omega arith))

  -- block r, which is flash block b, holds the page in slot k, and no other slot does
  pub record Only (first : ℕ) (t : List (List Slot)) (b k : ℕ) : Type 0 where
    pub place : ℕ
    pub is : b ≡ first + place
    pub inside : place < length t
    pub dies_alone : retired (among d (eqb i)) t ≡ set t place (set (get_or t place []) k dead)

  pub table_one : (first : ℕ) (t : List (List Slot)) (b k : ℕ) → named_in d i t ≤ 1 → place_for d i first t ≡ Some (b, k) → Only first t b k
  unfolding place_for try_block
  table_one first [] b k h e = absurd (let z : ◌≡◌ {A = ℕ} 0 1 = cc in omega arith)
  table_one first (xs ∷ t) b k h e = go (slot_for d i xs) refl (table_one (first + 1) t b k)
    where
      c : named_in d i (xs ∷ t) ≡ named_by d i xs + named_in d i t
      c = sum_by-cons (count_by (is_at d i)) xs t

      go :
          (o : Option ℕ) → slot_for d i xs ≡ o → (named_in d i t ≤ 1 → place_for d i (first + 1) t ≡ Some (b, k) → Only (first + 1) t b k) →
          Only first (xs ∷ t) b k
      go (Some n) q rest =
          let f : ◌≡◌ {A = Option (ℕ × ℕ)} (Some (first, n)) (Some (b, k)) = sym (ap (try_block first (place_for d i (first + 1) t)) q) ∙ e in
          let z : ◌≡◌ {A = ℕ × ℕ} (first, n) (b, k) = cc in
          let block : first ≡ b = ap (λ (x : ℕ × ℕ). x.0) z in
          let slot : n ≡ k = ap (λ (x : ℕ × ℕ). x.1) z in
          let r = row_one xs k (omega (arith, c)) (q ∙ ap (λ (m : ℕ). Some m) slot) in
          record {
            place = 0;
            is = omega arith;
            inside = omega arith;
            dies_alone = ap₂ (λ y ys. y ∷ ys) r.dies_alone (table_none t (omega (arith, c, r.named)));
          }
      go None q rest =
          let f : place_for d i (first + 1) t ≡ Some (b, k) = sym (ap (try_block first (place_for d i (first + 1) t)) q) ∙ e in
          let none = row_unfound xs q in
          let r = rest (omega (arith, c)) f in
          record {
            place = suc r.place;
            is = omega (arith, r.is);
            inside = omega (arith, r.inside);
            dies_alone = ap₂ (λ y ys. y ∷ ys) (row_none xs none) r.dies_alone;
          }

  table_unfound : (first : ℕ) (t : List (List Slot)) → place_for d i first t ≡ None → named_in d i t ≡ 0
  unfolding place_for try_block
  table_unfound first [] e = refl
  table_unfound first (xs ∷ t) e = go (slot_for d i xs) refl (table_unfound (first + 1) t)
    where
      c : named_in d i (xs ∷ t) ≡ named_by d i xs + named_in d i t
      c = sum_by-cons (count_by (is_at d i)) xs t

      go :
          (o : Option ℕ) → slot_for d i xs ≡ o → (place_for d i (first + 1) t ≡ None → named_in d i t ≡ 0) → named_in d i (xs ∷ t) ≡ 0
      go (Some n) q rest =
          let f : ◌≡◌ {A = Option (ℕ × ℕ)} (Some (first, n)) None = sym (ap (try_block first (place_for d i (first + 1) t)) q) ∙ e in
          absurd (let z : ◌≡◌ {A = ℕ} 0 1 = cc in omega arith)
      go None q rest =
          let f : place_for d i (first + 1) t ≡ None = sym (ap (try_block first (place_for d i (first + 1) t)) q) ∙ e in
          omega (arith, c, row_unfound xs q, rest f)

-- ---- sets

set_of_none : (n : ℕ) (p : ℕ → Bool) → ((k : ℕ) → k < n → p k ≡ false) → set_of n p ≡ 0
unfolding set_of
set_of_none zero p h = refl
set_of_none (suc n) p h =
    let rest = set_of_none n (λ i. p (suc i)) (λ k l. h (suc k) (omega arith)) in
    let low : ◌≡◌ {A = ℕ} (cond (p 0) 1 0) 0 = ap (λ (b : Bool). cond b 1 0) (h 0 (omega arith)) in
    omega arith

-- tests that pick the same pages below m, and none from there to n
pub set_of_same :
    (m n : ℕ) (p q : ℕ → Bool) → m ≤ n → ((k : ℕ) → k < m → p k ≡ q k) → ((k : ℕ) → m ≤ k → k < n → p k ≡ false) → set_of n p ≡ set_of m q
unfolding set_of
set_of_same zero n p q h a b = set_of_none n p (λ k l. b k (omega arith) l)
set_of_same (suc m) zero p q h a b = absurd (omega arith)
set_of_same (suc m) (suc n) p q h a b =
    let rest =
    set_of_same m n (λ i. p (suc i)) (λ i. q (suc i)) (omega arith) (λ k l. a (suc k) (omega arith))
    (λ k l r. b (suc k) (omega arith) (omega arith)) in
    let low : ◌≡◌ {A = ℕ} (cond (p 0) 1 0) (cond (q 0) 1 0) = ap (λ (x : Bool). cond x 1 0) (a 0 (omega arith)) in
    omega arith

-- a set without a page that it has not
less_none : (n g i : ℕ) → g < 2 ^ n → has g i ≡ false → set_of n (λ j. has g j && not (eqb i j)) ≡ g
less_none n g i h e =
    sym (set_is n g (λ j. has g j && not (eqb i j)) h (λ k l. go k (eqb i k) refl))
  where
    go : (k : ℕ) (b : Bool) → eqb i k ≡ b → has g k ≡ (has g k && not b)
    go k true q = let z : i ≡ k = eqb-true i k q in let f : has g k ≡ false = ap (has g) (sym z) ∙ e in rw f refl
    go k false q = elim (cases_Bool (has g k)) [ inl f ↦ rw f refl | inr f ↦ rw f refl ]

-- the operations on 64 bits that take a page out
pub less_is :
    (n g i : ℕ) → n ≤ 64 → g < 2 ^ n →
    set_of 64 (λ j. has g j && not (has (set_of 64 (λ k. eqb k i || has 0 k)) j)) ≡ set_of n (λ j. has g j && not (eqb i j))
less_is n g i h l =
    set_of_same n 64 (λ j. has g j && not (has (set_of 64 (λ k. eqb k i || has 0 k)) j)) (λ j. has g j && not (eqb i j)) h
    (λ k m.
    ap (λ (b : Bool). has g k && not b)
    (has_set_of 64 (λ k. eqb k i || has 0 k) k (omega arith)
    ∙ ap (λ (b : Bool). eqb k i || b) (has_none k)
    ∙ or-false (eqb k i)
    ∙ grind (arith, nat_tests)))
    (λ k m r. and_left (has g k) (not (has (set_of 64 (λ j. eqb j i || has 0 j)) k)) (has_high n g k l m))

-- no page is more often in a set that one was taken out of
pub less_in : (n g i k : ℕ) → in_set (set_of n (λ j. has g j && not (eqb i j))) k ≤ in_set g k
less_in n g i k =
    elim (cases_lt k n) [
      | inl h ↦
          let e = has_set_of n (λ j. has g j && not (eqb i j)) k h in
          rw e (both (has g k) (not (eqb i k)))
      | inr h ↦
          let e = has_high n (set_of n (λ j. has g j && not (eqb i j))) k (set_of_below n (λ j. has g j && not (eqb i j))) h in
          rw e (omega arith)
    ]
  where
    both : (a b : Bool) → ◌≤◌ (cond (a && b) 1 0) (cond a 1 0)
    both true true = omega arith
    both true false = omega arith
    both false b = omega arith

-- ---- what the place of a page tells

-- the place of a page, from the answer of each map
held_from : ℕ → ℕ → Option (ℕ × ℕ) → Bool → Option (ℕ × ℕ × ℕ)
held_from d i o valid = elim valid [ true ↦ Some (2, d, i) | false ↦ elim o [ Some p ↦ Some (1, p.0, p.1) | None ↦ None ] ]

module _ (s : State) (d i : ℕ) where
  abbrev valid : Bool
  valid = has (get_or s.sets d 0) i

  abbrev found : Option (ℕ × ℕ)
  found = place_for d i s.plan.data s.table

  held_by : (v : Bool) (o : Option (ℕ × ℕ)) → valid ≡ v → found ≡ o → held s d i ≡ held_from d i o v
  unfolding held held_from
  held_by v o e f = ap₂ (held_from d i) f e

  -- in the data block
  pub held_data_is : (b k : ℕ) → held s d i ≡ Some (2, b, k) → (valid ≡ true) × (d ≡ b) × (i ≡ k)
  unfolding held_from
  held_data_is b k e = go valid found refl refl
    where
      go : (v : Bool) (o : Option (ℕ × ℕ)) → valid ≡ v → found ≡ o → (valid ≡ true) × (d ≡ b) × (i ≡ k)
      go true o p q =
          let f : ◌≡◌ {A = Option (ℕ × ℕ × ℕ)} (Some (2, d, i)) (Some (2, b, k)) = sym (held_by true o p q) ∙ e in
          let z : ◌≡◌ {A = ℕ × ℕ × ℕ} (2, d, i) (2, b, k) = cc in
          (p, ap (λ (x : ℕ × ℕ × ℕ). x.1) z, ap (λ (x : ℕ × ℕ × ℕ). x.2) z)
      go false None p q =
          let f : ◌≡◌ {A = Option (ℕ × ℕ × ℕ)} None (Some (2, b, k)) = sym (held_by false None p q) ∙ e in
          absurd (let z : ◌≡◌ {A = ℕ} 0 1 = cc in omega arith)
      go false (Some x) p q =
          let f : ◌≡◌ {A = Option (ℕ × ℕ × ℕ)} (Some (1, x.0, x.1)) (Some (2, b, k)) = sym (held_by false (Some x) p q) ∙ e in
          let z : ◌≡◌ {A = ℕ × ℕ × ℕ} (1, x.0, x.1) (2, b, k) = cc in
          absurd (let w : ◌≡◌ {A = ℕ} 1 2 = ap (λ (y : ℕ × ℕ × ℕ). y.0) z in omega arith)

  -- in the region
  pub held_slot_is : (b k : ℕ) → held s d i ≡ Some (1, b, k) → (valid ≡ false) × (found ≡ Some (b, k))
  unfolding held_from
  held_slot_is b k e = go valid found refl refl
    where
      go : (v : Bool) (o : Option (ℕ × ℕ)) → valid ≡ v → found ≡ o → (valid ≡ false) × (found ≡ Some (b, k))
      go true o p q =
          let f : ◌≡◌ {A = Option (ℕ × ℕ × ℕ)} (Some (2, d, i)) (Some (1, b, k)) = sym (held_by true o p q) ∙ e in
          let z : ◌≡◌ {A = ℕ × ℕ × ℕ} (2, d, i) (1, b, k) = cc in
          absurd (let w : ◌≡◌ {A = ℕ} 2 1 = ap (λ (y : ℕ × ℕ × ℕ). y.0) z in omega arith)
      go false None p q =
          let f : ◌≡◌ {A = Option (ℕ × ℕ × ℕ)} None (Some (1, b, k)) = sym (held_by false None p q) ∙ e in
          absurd (let z : ◌≡◌ {A = ℕ} 0 1 = cc in omega arith)
      go false (Some x) p q =
          let f : ◌≡◌ {A = Option (ℕ × ℕ × ℕ)} (Some (1, x.0, x.1)) (Some (1, b, k)) = sym (held_by false (Some x) p q) ∙ e in
          let z : ◌≡◌ {A = ℕ × ℕ × ℕ} (1, x.0, x.1) (1, b, k) = cc in
          (p, q ∙ ap (λ (y : ℕ × ℕ × ℕ). Some (y.1, y.2)) z)

  -- nowhere
  held_none_is : held s d i ≡ None → (valid ≡ false) × (found ≡ None)
  unfolding held_from
  held_none_is e = go valid found refl refl
    where
      go : (v : Bool) (o : Option (ℕ × ℕ)) → valid ≡ v → found ≡ o → (valid ≡ false) × (found ≡ None)
      go true o p q =
          let f : ◌≡◌ {A = Option (ℕ × ℕ × ℕ)} (Some (2, d, i)) None = sym (held_by true o p q) ∙ e in
          absurd (let z : ◌≡◌ {A = ℕ} 0 1 = cc in omega arith)
      go false None p q = (p, q)
      go false (Some x) p q =
          let f : ◌≡◌ {A = Option (ℕ × ℕ × ℕ)} (Some (1, x.0, x.1)) None = sym (held_by false (Some x) p q) ∙ e in
          absurd (let z : ◌≡◌ {A = ℕ} 0 1 = cc in omega arith)

-- ---- one page is held no more

-- the state with other maps
abbrev pub mapped : State → List ℕ → List (List Slot) → State
mapped s sets t = record { plan = s.plan; pages = s.pages; card = s.card; sets = sets; table = t; reserve = s.reserve }

-- the set of block d without page i
abbrev pub without : State → ℕ → ℕ → ℕ
without s d i = set_of s.pages (λ j. has (get_or s.sets d 0) j && not (eqb i j))

module _ (s : State) (d i : ℕ) (o : Orderly s.plan s.pages s.sets s.table s.reserve) where
  -- a page of the data block: the set is without it
  pub drop_data : has (get_or s.sets d 0) i ≡ true → dropped s d (eqb i) ≡ mapped s (set s.sets d (without s d i)) s.table
  unfolding dropped
  drop_data e =
      let one : in_set (get_or s.sets d 0) i ≡ 1 = ap (λ (b : Bool). cond b 1 0) e in
      ap (mapped s (set s.sets d (without s d i))) (table_none d i s.table (omega (arith, o.once d i)))

  -- a set that has not the page stays
  same_sets : has (get_or s.sets d 0) i ≡ false → set s.sets d (without s d i) ≡ s.sets
  same_sets e =
      let g = get_or s.sets d 0 in
      elim (cases_lt d (length s.sets)) [
        | inl h ↦
            ap (set s.sets d) (less_none s.pages g i (All-get_or (λ x. x < 2 ^ s.pages) s.sets d 0 h o.sets_fit) e)
            ∙ set-get_or s.sets d 0
        | inr h ↦ set_past s.sets d (without s d i) h
      ]

  -- a slot of the region: it is dead
  pub drop_slot :
      (b k : ℕ) → has (get_or s.sets d 0) i ≡ false → (only : Only d i s.plan.data s.table b k) →
      dropped s d (eqb i) ≡ mapped s s.sets (set s.table only.place (set (get_or s.table only.place []) k dead))
  unfolding dropped
  drop_slot b k e only = ap₂ (mapped s) (same_sets e) only.dies_alone

  -- a page that is not held
  pub drop_absent : held s d i ≡ None → dropped s d (eqb i) ≡ s
  unfolding dropped
  drop_absent e =
      let n = held_none_is s d i e in
      ap₂ (mapped s) (same_sets n.0) (table_none d i s.table (table_unfound d i s.plan.data s.table n.1))

-- the plan and its pages stay
pub dropped_plan : (s : State) (d : ℕ) (p : ℕ → Bool) → (dropped s d p).plan ≡ s.plan
unfolding dropped
dropped_plan s d p = refl

pub dropped_pages : (s : State) (d : ℕ) (p : ℕ → Bool) → (dropped s d p).pages ≡ s.pages
unfolding dropped
dropped_pages s d p = refl

-- ---- pages one after the other

pub dropped_as : (s : State) (d : ℕ) (p q : ℕ → Bool) → ((j : ℕ) → p j ≡ q j) → dropped s d p ≡ dropped s d q
dropped_as s d p q e = λ i. dropped s d (λ j. e j i)

retire_again :
    (d : ℕ) (p q : ℕ → Bool) (x : Slot) → retire (among d q) (retire (among d p) x) ≡ retire (among d (λ j. p j || q j)) x
unfolding retire
retire_again d p q (live e j) = go (eqb e d) refl (p j)
  where
    go :
        (a : Bool) → eqb e d ≡ a → (b : Bool) →
        retire (among d q) (cond (a && b) dead (live e j)) ≡ cond (a && (b || q j)) dead (live e j)
    go true f true = refl
    go true f false = ap (λ (a : Bool). cond (a && q j) dead (live e j)) f
    go false f b = ap (λ (a : Bool). cond (a && q j) dead (live e j)) f
retire_again d p q dead = refl

map_twice : {X : Type 0} (f g h : X → X) → ((x : X) → f (g x) ≡ h x) → (xs : List X) → map f (map g xs) ≡ map h xs
map_twice f g h e [] = refl
map_twice f g h e (x ∷ xs) = ap₂ (λ y ys. y ∷ ys) (e x) (map_twice f g h e xs)

dropped_again :
    (s : State) (d : ℕ) (p q : ℕ → Bool) → d < length s.sets → dropped (dropped s d p) d q ≡ dropped s d (λ j. p j || q j)
unfolding dropped
dropped_again s d p q h =
    let n = s.pages in
    let g = get_or s.sets d 0 in
    let first = set_of n (λ j. has g j && not (p j)) in
    let then = set_of n (λ j. has (get_or (set s.sets d first) d 0) j && not (q j)) in
    let both = set_of n (λ j. has g j && not (p j || q j)) in
    let same : then ≡ both =
    set_of_same n n (λ j. has (get_or (set s.sets d first) d 0) j && not (q j)) (λ j. has g j && not (p j || q j)) (omega arith)
    (λ k l.
    ap (λ (x : ℕ). has x k && not (q k)) (get_or-set_same s.sets d first 0 h)
    ∙ ap (λ (b : Bool). b && not (q k)) (has_set_of n (λ j. has g j && not (p j)) k l)
    ∙ not_both (has g k) (p k) (q k))
    (λ k l r. absurd (omega arith)) in
    ap₂ (mapped s) (set-set s.sets d first then ∙ ap (set s.sets d) same)
    (map_twice (map (retire (among d q))) (map (retire (among d p))) (map (retire (among d (λ j. p j || q j))))
    (map_twice (retire (among d q)) (retire (among d p)) (retire (among d (λ j. p j || q j))) (retire_again d p q)) s.table)
  where
    not_both : (a b c : Bool) → (a && not b && not c) ≡ (a && not (b || c))
    not_both true true c = refl
    not_both true false c = refl
    not_both false b c = refl

map_same : {X : Type 0} (f : X → X) → ((x : X) → f x ≡ x) → (xs : List X) → map f xs ≡ xs
map_same f e [] = refl
map_same f e (x ∷ xs) = ap₂ (λ y ys. y ∷ ys) (e x) (map_same f e xs)

-- a test that picks no page
pub dropped_none :
    (s : State) (d : ℕ) (p : ℕ → Bool) → Orderly s.plan s.pages s.sets s.table s.reserve → d < length s.sets →
    ((j : ℕ) → p j ≡ false) → dropped s d p ≡ s
unfolding dropped retire
dropped_none s d p o h e =
    let g = get_or s.sets d 0 in
    let same : set_of s.pages (λ j. has g j && not (p j)) ≡ g =
    sym (set_is s.pages g (λ j. has g j && not (p j)) (All-get_or (λ x. x < 2 ^ s.pages) s.sets d 0 h o.sets_fit)
    (λ k l. sym (ap (λ (b : Bool). has g k && not b) (e k) ∙ and-true (has g k)))) in
    ap₂ (mapped s) (ap (set s.sets d) same ∙ set-get_or s.sets d 0) (map_same (map (retire (among d p))) (map_same (retire (among d p)) stay) s.table)
  where
    stay : (x : Slot) → retire (among d p) x ≡ x
    stay (live f j) = ap (λ (b : Bool). cond b dead (live f j)) (and_right (eqb f d) (p j) (e j))
    stay dead = refl

-- ---- the pages of a set, in ascending order

-- those below i
abbrev pub up_to : ℕ → ℕ → ℕ → Bool
up_to g i j = ltb j i && has g j

module _ (g i : ℕ) where
  -- page i is none of the set
  pub up_to_skip : has g i ≡ false → (j : ℕ) → up_to g i j ≡ up_to g (i + 1) j
  up_to_skip e j =
      elim (cases_eq j i) [
        | inl q ↦ let f : has g j ≡ false = ap (has g) q ∙ e in rw f (grind (arith, nat_tests))
        | inr q ↦ let f : ltb j i ≡ ltb j (i + 1) = grind (arith, nat_tests) in ap (λ (b : Bool). b && has g j) f
      ]

  -- it is one
  up_to_take : has g i ≡ true → (j : ℕ) → (up_to g i j || eqb i j) ≡ up_to g (i + 1) j
  up_to_take e j =
      elim (cases_eq j i) [
        | inl q ↦ let f : has g j ≡ true = ap (has g) q ∙ e in rw f (grind (arith, nat_tests))
        | inr q ↦
            let f : ltb j i ≡ ltb j (i + 1) = grind (arith, nat_tests) in
            ap (λ (b : Bool). up_to g i j || b) (ne_eqb i j (λ r. q (sym r))) ∙ or-false (up_to g i j) ∙ ap (λ (b : Bool). b && has g j) f
      ]

  -- there are no others
  pub up_to_all : g < 2 ^ i → (j : ℕ) → up_to g i j ≡ has g j
  up_to_all h j =
      elim (cases_lt j i) [
        | inl l ↦ ap (λ (b : Bool). b && has g j) (lt-ltb j i l)
        | inr l ↦ let f = has_high i g j h l in rw f (and_right (ltb j i) false refl)
      ]

pub up_to_none : (g j : ℕ) → up_to g 0 j ≡ false
up_to_none g j = and_left (ltb j 0) (has g j) (le-ltb j 0 (omega arith))

-- one page more of the set is dropped
pub dropped_more :
    (s₀ s t : State) (d g i : ℕ) → d < length s₀.sets → has g i ≡ true → s ≡ dropped s₀ d (up_to g i) → t ≡ dropped s d (eqb i) →
    t ≡ dropped s₀ d (up_to g (i + 1))
dropped_more s₀ s t d g i h e p q =
    q
    ∙ ap (λ (x : State). dropped x d (eqb i)) p
    ∙ dropped_again s₀ d (up_to g i) (eqb i) h
    ∙ dropped_as s₀ d (λ j. up_to g i j || eqb i j) (up_to g (i + 1)) (up_to_take g i e)
