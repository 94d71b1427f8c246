-- A compaction of the tables is the compaction of the rules.
use Rattle.std.proofs.Common.{◌≡◌, ℕ, ◌+◌, List, [], length, get_or, set, None, sym, refl, ap, ◌∙◌, arith}
use Rattle.flash.specs.Meaning.{Card, erased}
use Rattle.flash.specs.Refusals.{erase_refusal}
use Rattle.rules.specs.State.{Slot}
use Rattle.rules.specs.Moves.{kept, copied, compacted_at}
use Rattle.rules.specs.Ready.{Orderly, Ready}
use Rattle.rules.proofs.ReadyCards.{copying_all}
use Rattle.rules.proofs.ReadyFirm.{compact_starts, compact_erases, slots_short}
use Rattle.rules.proofs.ReadyMoves.{ready_firm, ready_compacted}
use Rattle.store.specs.declared.maps.Maps.{Maps}
use Rattle.store.specs.declared.slot.RegionBlock.{RegionBlock}
use Rattle.store.specs.Moves.{CanCopy, CanCollect}
use Rattle.store.specs.State.{state_of}
use Rattle.store.specs.View.{slots_of, table_of, sets_of, state_with}
use Rattle.store.proofs.MapsLaws.{row_at_lem, row_length}
use Rattle.store.proofs.TableLaws.{table_set}

module _ (m : Maps) (c : Card) (v n : ℕ) (can : CanCollect (state_of m c) v n) where
  -- the block's live pages can be copied to the reserve
  pub collect_copies : (z : RegionBlock) (from to : ℕ) → from ≡ m.plan.data + v → to ≡ m.plan.data + m.reserve → CanCopy c (get_or m.table v z).used from to n
  collect_copies z from to e f =
      let s = state_of m c in
      let firm = ready_firm s can.ready in
      let start = compact_starts s v firm can.inside in
      rw (e, f)
      (record {
        sound = can.ready.sound;
        from_in = start.from_in;
        to_in = start.to_in;
        blank = start.floor;
        short = omega (arith, slots_short s v firm can.inside, row_length m v z can.inside);
        bytes = can.bytes;
      })

  -- the cards and tables that the steps of the code leave
  module _ (b z : RegionBlock) (is : b ≡ get_or m.table v z) (from to : ℕ) (e : from ≡ m.plan.data + v) (f : to ≡ m.plan.data + m.reserve)
      (k : Card) (copied_is : k ≡ copied from to (slots_of b) 0 0 c) where
    row_is : slots_of b ≡ get_or (table_of m.plan m.table) v []
    row_is = ap slots_of is ∙ sym (row_at_lem m v z can.inside)

    card_is : k ≡ copied (m.plan.data + v) (m.plan.data + m.reserve) (get_or (table_of m.plan m.table) v []) 0 0 c
    card_is = copied_is ∙ rw (e, f, row_is) refl

    -- the block may then be erased
    pub collect_erases : erase_refusal k from ≡ None
    collect_erases =
        let s = state_of m c in
        let firm = ready_firm s can.ready in
        let xs : List Slot = get_or (table_of m.plan m.table) v [] in
        let all = copying_all c (m.plan.data + v) (m.plan.data + m.reserve) xs c 0 0 (compact_starts s v firm can.inside) (omega (arith, slots_short s v firm can.inside)) in
        rw (e, card_is) (compact_erases s v (copied (m.plan.data + v) (m.plan.data + m.reserve) xs 0 0 c) (0 + length xs) (0 + length (kept xs)) all can.lasts)

    module _ (copies empty : RegionBlock) (kept_is : slots_of copies ≡ kept (slots_of b)) (blank : slots_of empty ≡ []) (j : Card) (erased_is : j ≡ erased k from) where
      pub collected : state_with m.plan m.pages m.sets (set (set m.table m.reserve copies) v empty) v j ≡ compacted_at (state_of m c) v
      unfolding compacted_at
      collected =
          let t : table_of m.plan (set (set m.table m.reserve copies) v empty) ≡ set (set (table_of m.plan m.table) m.reserve (kept (get_or (table_of m.plan m.table) v []))) v [] =
          table_set m.plan (set m.table m.reserve copies) v empty
          ∙ ap (λ (x : List (List Slot)). set x v (slots_of empty)) (table_set m.plan m.table m.reserve copies)
          ∙ rw (kept_is, blank, row_is) refl in
          rw (t, erased_is, card_is, e) refl

      pub collected_orderly : Orderly m.plan m.pages (sets_of m.plan m.sets) (table_of m.plan (set (set m.table m.reserve copies) v empty)) v
      collected_orderly =
          let s = state_of m c in
          let after : Ready (state_with m.plan m.pages m.sets (set (set m.table m.reserve copies) v empty) v j) = rw collected (ready_compacted s v can.ready can.inside can.apart can.lasts) in
          after.orderly
