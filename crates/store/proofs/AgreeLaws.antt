-- The test whether a flash is as the maps say, and what it tells.
use Rattle.std.proofs.Common.{List, ◌∷◌, ◌&&◌, ◌≡◌, ℕ, zero, suc, ◌+◌, ◌<◌, ◌≤◌, Bool, true, false, cond, eqb, [], length, get_or, take, Some, None, Option, sym, refl, ap, ◌∙◌, inl, inr, add-one, arith}
use Rattle.std.proofs.lemmas.Bool.{cases_eq, eq-eqb, and_from}
use Rattle.std.specs.List.{enumerate_from, list_all}
use Rattle.std.proofs.lemmas.List.{get_or-take, length-take-le, take_all}
use Rattle.std.proofs.lemmas.List.Folds.{list_all_more}
use Rattle.std.proofs.lemmas.List.FromFn.{length-enumerate_from, get_or-enumerate_from}
use Rattle.std.proofs.lemmas.Bool.Decides.{nat_tests}
use Rattle.flash.specs.Meaning.{Card, block_count, floor_at, Sound}
use Rattle.rules.specs.Calls.{Call}
use Rattle.rules.specs.State.{State}
use Rattle.rules.specs.Ready.{Agrees, Ready}
use Rattle.store.specs.declared.maps.Maps.{Maps}
use Rattle.store.specs.declared.slot.RegionBlock.{RegionBlock}
use Rattle.store.specs.Calls.{floors_agree, agreeing, state_in, InForce, Accepted}
use Rattle.store.specs.State.{state_of}
use Rattle.store.specs.View.{table_of}
use Rattle.store.proofs.MapsLaws.{orderly, rows_in, row_length}

-- ---- floors

module _ (s : State) where
  pub floors_tell : (n r : ℕ) → floors_agree s n ≡ true → r < n → floor_at s.card (s.plan.data + r) ≡ length (get_or s.table r [])
  unfolding floors_agree
  floors_tell zero r e h = absurd (omega arith)
  floors_tell (suc n) r e h =
      elim (cases_eq r n) [
        | inl q ↦ rw q (grind (arith, nat_tests))
        | inr o ↦ floors_tell n r (grind (arith, nat_tests)) (omega arith)
      ]

  pub floors_hold :
      (n : ℕ) → ((r : ℕ) → r < n → floor_at s.card (s.plan.data + r) ≡ length (get_or s.table r [])) → floors_agree s n ≡ true
  unfolding floors_agree
  floors_hold zero h = refl
  floors_hold (suc n) h =
      and_from (floors_agree s n) (eqb _ _) (floors_hold n (λ r l. h r (omega arith))) (eq-eqb _ _ (h n (omega arith)))

  -- ---- the whole test

  pub agrees_from : agreeing s ≡ true → Agrees s
  unfolding agreeing
  agrees_from e =
      record {
        pages_are = grind (arith, nat_tests);
        inside = grind (arith, nat_tests);
        floors = λ r h. floors_tell s.plan.region r (grind (arith, nat_tests)) h;
      }

  pub agrees_by_floors :
      s.pages ≡ s.card.shape.pages → s.plan.data + s.plan.region ≤ block_count s.card → agreeing s ≡ floors_agree s s.plan.region
  unfolding agreeing
  agrees_by_floors p i = grind (arith, nat_tests)

  pub agreeing_ready : Ready s → agreeing s ≡ true
  agreeing_ready r =
      agrees_by_floors r.agrees.pages_are r.agrees.inside ∙ floors_hold s.plan.region r.agrees.floors

  pub differs_pages : (s.pages ≡ s.card.shape.pages → ⊥) → agreeing s ≡ false
  unfolding agreeing
  differs_pages ne = grind (arith, nat_tests)

  pub differs_room : block_count s.card < s.plan.data + s.plan.region → agreeing s ≡ false
  unfolding agreeing
  differs_room h = grind (arith, nat_tests)

-- ---- the blocks of the region, each with its place, as the test goes over them

-- an element of a list that has some
some_of : {X : Type 0} → (xs : List X) → 0 < length xs → X
some_of [] h = absurd (omega arith)
some_of (x ∷ xs) h = x

module _ (m : Maps) (c : Card) where
  -- the blocks of the region
  abbrev pub rows : List RegionBlock
  rows = take m.plan.region m.table

  rows_length : length rows ≡ m.plan.region
  rows_length = length-take-le m.plan.region m.table (rows_in m)

  row_used :
      (r : ℕ) (z : RegionBlock) → r < m.plan.region →
      length (get_or (table_of m.plan m.table) r []) ≡ (get_or rows r z).used
  row_used r z h = row_length m r z h ∙ sym (ap (λ (b : RegionBlock). b.used) (get_or-take m.plan.region m.table r z h))

  -- whether the floor of a block is as its row says
  abbrev pub as_told : ℕ × RegionBlock → Bool
  as_told p = eqb (floor_at c (m.plan.data + p.0)) p.1.used

  -- of the block at a place it is what the maps tell
  told :
      (n : ℕ) (z : RegionBlock) → n < m.plan.region →
      as_told (get_or (enumerate_from 0 rows) n (0, z)) ≡ eqb (floor_at c (m.plan.data + n)) (length (get_or (table_of m.plan m.table) n []))
  told n z h =
      let here : 0 + n ≡ n = omega arith in
      ap as_told (get_or-enumerate_from 0 rows n (0, z) (omega (arith, rows_length)))
      ∙ ap (λ (k : ℕ). as_told (k, get_or rows n z)) here
      ∙ ap (eqb (floor_at c (m.plan.data + n))) (sym (row_used n z h))

  -- the test of the first n of them is that of the first n floors
  told_below : (n : ℕ) → n ≤ m.plan.region → list_all as_told (take n (enumerate_from 0 rows)) ≡ floors_agree (state_of m c) n
  unfolding floors_agree
  told_below zero h = refl
  told_below (suc n) h =
      let z = some_of rows (omega (arith, rows_length)) in
      ap (λ (k : ℕ). list_all as_told (take k (enumerate_from 0 rows))) (sym (add-one n))
      ∙ list_all_more as_told (enumerate_from 0 rows) n (0, z) (omega (arith, length-enumerate_from 0 rows, rows_length))
      ∙ ap (λ (b : Bool). b && as_told (get_or (enumerate_from 0 rows) n (0, z))) (told_below n (omega arith))
      ∙ ap (λ (b : Bool). floors_agree (state_of m c) n && b) (told n z (omega arith))

  -- the test of all of them is that of the floors
  pub all_told : list_all as_told (enumerate_from 0 rows) ≡ floors_agree (state_of m c) m.plan.region
  all_told =
      let whole = take_all m.plan.region (enumerate_from 0 rows) (omega (arith, length-enumerate_from 0 rows, rows_length)) in
      ap (list_all as_told) (sym whole)
      ∙ told_below m.plan.region (omega arith)

-- ---- the state of a store

module _ (m : Maps) (c : Card) where
  state_agreeing : agreeing (state_of m c) ≡ true → state_in (Some m) c ≡ Some (state_of m c)
  state_agreeing e = ap (λ (b : Bool). cond b (Some (state_of m c)) None) e

  -- a store whose test passes can carry out every call
  pub in_force : (maps : Option Maps) → maps ≡ Some m → Sound c → agreeing (state_of m c) ≡ true → InForce (state_in maps c) (state_of m c)
  in_force maps is sound e =
      record {
        is = ap (λ (x : Option Maps). state_in x c) is ∙ state_agreeing e;
        ready = record {
          some_data = m.some_data;
          two_blocks = m.two_blocks;
          orderly = orderly m;
          agrees = agrees_from (state_of m c) e;
          sound = sound;
        };
      }

  -- maps that a call leaves are in force
  pub state_kept : (t : State) → state_of m c ≡ t → Ready t → state_in (Some m) c ≡ Some t
  state_kept t e r = let same : Ready (state_of m c) = rw e r in state_agreeing (agreeing_ready (state_of m c) same) ∙ ap Some e

  -- a store that has a state has the one that its maps tell
  state_only : (s : State) → state_in (Some m) c ≡ Some s → state_of m c ≡ s
  state_only s = go (agreeing (state_of m c))
    where
      go : (b : Bool) → cond b (Some (state_of m c)) None ≡ Some s → state_of m c ≡ s
      go true e = cc
      go false e = cc

  pub accepted_here :
      (maps : Option Maps) (call : Call) → maps ≡ Some m → (s : State) × Accepted (state_in maps c) call s → Accepted (state_in maps c) call (state_of m c)
  accepted_here maps call e a =
      let is : state_in (Some m) c ≡ Some a.0 = sym (ap (λ (x : Option Maps). state_in x c) e) ∙ a.1.in_force.is in
      rw (state_only a.0 is) a.1

-- the card of a state is the store's
pub card_of : (maps : Option Maps) (c : Card) (s : State) → state_in maps c ≡ Some s → s.card ≡ c
card_of None c s e = cc
card_of (Some m) c s e = sym (ap (λ (x : State). x.card) (state_only m c s e))
