-- Pages go into the open block one after the other.
use Rattle.std.proofs.Common.{◌≡◌, ℕ, ◌+◌, ◌*◌, ◌<◌, ◌≤◌, true, false, List, [], ◌∷◌, ◌++◌, length, get_or, take, drop, set, Some, None, sym, refl, ap, ◌∙◌, add-one, arith}
use Rattle.flash.specs.Meaning.{Card, programmed}
use Rattle.flash.specs.Refusals.{program_refusal}
use Rattle.rules.specs.Calls.{row_at, row_of}
use Rattle.rules.specs.Moves.{open_block, stored_at, stored, appended}
use Rattle.rules.specs.Ready.{Orderly, Ready}
use Rattle.rules.specs.Sets.{has, pages_in}
use Rattle.rules.specs.State.{State, Slot, live}
use Rattle.rules.proofs.OpenBlock.{OpenIn}
use Rattle.rules.proofs.ReadyAppends.{NextPage, next_appends}
use Rattle.rules.proofs.ReadyFirm.{store_programs}
use Rattle.rules.proofs.ReadyMoves.{ready_firm, ready_stored}
use Rattle.store.specs.declared.maps.Maps.{Maps}
use Rattle.store.specs.declared.slot.RegionBlock.{RegionBlock}
use Rattle.store.specs.Appends.{CanStore, CanAppend}
use Rattle.store.specs.State.{state_of}
use Rattle.store.specs.View.{slots_of, table_of, sets_of, state_with}
use Rattle.store.proofs.MapsLaws.{row_at_lem, row_length}
use Rattle.store.proofs.TableLaws.{table_set}

-- ---- one page

module _ (m : Maps) (c : Card) (d i : ℕ) (x : List ℕ) (can : CanStore (state_of m c) d i (length x)) (r : ℕ)
    (found : open_block m.pages m.reserve 0 (table_of m.plan m.table) ≡ Some r) where
  -- the block that is found is the open one
  open_is : OpenIn (state_of m c) r
  open_is =
      let o = can.open_block in
      let same : o.0 ≡ r = cc (o.1.found, found) in
      rw (← same) o.1

  pub open_inside : r < m.plan.region
  open_inside = open_is.inside

  pub slot_room : (z : RegionBlock) → (get_or m.table r z).used < m.pages
  slot_room z = omega (arith, open_is.room, row_length m r z open_inside)

  -- its next page may be programmed
  pub store_accepted : (z : RegionBlock) (b p : ℕ) → b ≡ m.plan.data + r → p ≡ (get_or m.table r z).used → program_refusal c b p (length x) ≡ None
  store_accepted z b p e f =
      rw (e, f, ← row_length m r z open_inside) (store_programs (state_of m c) r (length x) (ready_firm (state_of m c) can.ready) open_is can.bytes)

  module _ (z : RegionBlock) (b p : ℕ) (e : b ≡ m.plan.data + r) (f : p ≡ (get_or m.table r z).used) (k : Card) (done : k ≡ programmed c b p x)
      (row y : RegionBlock) (is : slots_of row ≡ slots_of (get_or m.table r y) ++ (live d i ∷ [])) where
    pub store_is : state_with m.plan m.pages m.sets (set m.table r row) m.reserve k ≡ stored (state_of m c) d i (Some x)
    store_is =
        let t : table_of m.plan (set m.table r row) ≡ set (table_of m.plan m.table) r (get_or (table_of m.plan m.table) r [] ++ (live d i ∷ [])) =
        table_set m.plan m.table r row
        ∙ ap (set (table_of m.plan m.table) r) (is ∙ ap (λ (xs : List Slot). xs ++ (live d i ∷ [])) (sym (row_at_lem m r y open_inside))) in
        let page : p ≡ length (get_or (table_of m.plan m.table) r []) = f ∙ sym (row_length m r z open_inside) in
        rw (t, done, e, page, found) refl

    pub store_orderly : Orderly m.plan m.pages (sets_of m.plan m.sets) (table_of m.plan (set m.table r row)) m.reserve
    store_orderly =
        let s = state_of m c in
        let at : stored s d i (Some x) ≡ stored_at s d i x (Some r) = ap (stored_at s d i x) found in
        let after : Ready (state_with m.plan m.pages m.sets (set m.table r row) m.reserve k) =
        rw (store_is ∙ at) (ready_stored s d i x r can.ready open_is can.inside can.a_page can.bytes can.absent) in
        after.orderly

-- ---- the pages of a group

module _ (s : State) (d g : ℕ) (bytes : List ℕ) (can : CanAppend s d g (length bytes)) where
  next : (n : ℕ) → n ≤ s.pages → NextPage s d g n (appended s d (row_of s.card.shape.size g bytes) n)
  next n h = next_appends s d g bytes can.inside can.bytes can.room can.ready can.absent n h

  -- it can be stored
  pub next_stores :
      (is : State) (n l : ℕ) → is ≡ appended s d (row_of s.card.shape.size g bytes) n → n < s.pages → has g n ≡ true → l ≡ s.card.shape.size → CanStore is d n l
  next_stores is n l e h q len =
      let p = next n (omega arith) in
      rw e
      (record {
        ready = p.ready;
        inside = rw (ap (λ x. x.data) p.plan_same) can.inside;
        a_page = rw p.pages_same h;
        bytes = len ∙ sym (ap (λ x. x.size) p.shape_same);
        absent = p.absent q;
        open_block = p.opens q h;
      })

  -- and is one more
  pub appended_put :
      (is now : State) (n size : ℕ) (rest x : List ℕ) → is ≡ appended s d (row_of size g bytes) n → rest ≡ drop (pages_in n g * size) bytes →
      has g n ≡ true → x ≡ take size rest → now ≡ stored is d n (Some x) → now ≡ appended s d (row_of size g bytes) (n + 1)
  unfolding appended row_of
  appended_put is now n size rest x e t q y f =
      let row_is : row_of size g bytes n ≡ Some x = ap (row_at size g bytes n) q ∙ ap Some (ap (take size) (sym t) ∙ sym y) in
      f ∙ ap (λ (y : State). stored y d n (Some x)) e ∙ ap (stored (appended s d (row_of size g bytes) n) d n) (sym row_is)
      ∙ sym (ap (appended s d (row_of size g bytes)) (add-one n))

  pub appended_skip :
      (is : State) (n size : ℕ) → is ≡ appended s d (row_of size g bytes) n → has g n ≡ false → is ≡ appended s d (row_of size g bytes) (n + 1)
  unfolding appended row_of
  appended_skip is n size e q =
      let row_is : row_of size g bytes n ≡ None = ap (row_at size g bytes n) q in
      e ∙ ap (stored (appended s d (row_of size g bytes) n) d n) (sym row_is) ∙ sym (ap (appended s d (row_of size g bytes)) (add-one n))
