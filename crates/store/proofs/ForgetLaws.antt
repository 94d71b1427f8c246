-- The one place that holds a page is cleared, so that the page is dropped.
use Rattle.std.proofs.Common.{◌≡◌, ℕ, ◌+◌, ◌<◌, not, ◌&&◌, ◌||◌, eqb, List, [], length, get_or, set, Some, sym, ap, ◌∙◌, subst, arith}
use Rattle.flash.specs.Meaning.{Card}
use Rattle.rules.specs.declared.pages.PageSet.{PageSet}
use Rattle.rules.specs.Sets.{has, set_of}
use Rattle.rules.specs.State.{Slot, dead, held}
use Rattle.rules.specs.Moves.{dropped}
use Rattle.rules.specs.Ready.{Orderly}
use Rattle.rules.proofs.SetLaws.{set_of_below}
use Rattle.rules.proofs.OrderlyLaws.{Lesser, lesser_marked}
use Rattle.rules.proofs.DropLaws.{without, less_is, less_in, held_data_is, held_slot_is, table_one, drop_data, drop_slot}
use Rattle.store.specs.declared.maps.Maps.{Maps}
use Rattle.store.specs.declared.slot.RegionBlock.{RegionBlock}
use Rattle.store.specs.State.{state_of}
use Rattle.store.specs.View.{slots_of, table_of, sets_of}
use Rattle.store.proofs.MapsLaws.{orderly, row_at_lem, row_filed, set_in_maps, set_fits, orderly_with_row, orderly_with_set}
use Rattle.store.proofs.ChangeLaws.{with_row, with_set}

module _ (m : Maps) where
  -- ---- a page of a data block

  -- the set that the code makes of it
  pub left_is :
      (b i : ℕ) (z w x : PageSet) → b < m.plan.data → w.0 ≡ set_of 64 (λ j. eqb j i || has 0 j) →
      x.0 ≡ set_of 64 (λ j. has (get_or m.sets b z).0 j && not (has w.0 j)) →
      x.0 ≡ set_of m.pages (λ j. has (get_or (sets_of m.plan m.sets) b 0) j && not (eqb i j))
  left_is b i z w x h e f =
      f
      ∙ ap (λ (g : ℕ). set_of 64 (λ j. has g j && not (has w.0 j))) (sym (set_in_maps m b z h))
      ∙ ap (λ (v : ℕ). set_of 64 (λ j. has (get_or (sets_of m.plan m.sets) b 0) j && not (has v j))) e
      ∙ less_is m.pages (get_or (sets_of m.plan m.sets) b 0) i m.few_pages (set_fits m b h)

  module _ (b i : ℕ) (x : PageSet) (is : x.0 ≡ set_of m.pages (λ j. has (get_or (sets_of m.plan m.sets) b 0) j && not (eqb i j))) where
    pub forgotten_set : Orderly m.plan m.pages (sets_of m.plan (set m.sets b x)) (table_of m.plan m.table) m.reserve
    forgotten_set =
        let g = get_or (sets_of m.plan m.sets) b 0 in
        orderly_with_set m b x (rw is (set_of_below m.pages (λ j. has g j && not (eqb i j))))
        (λ k. rw is (omega (arith, (orderly m).once b k, less_in m.pages g i k)))

    pub forget_set : (c : Card) (d j : ℕ) → held (state_of m c) d j ≡ Some (2, b, i) → with_set (state_of m c) b x.0 ≡ dropped (state_of m c) d (eqb j)
    forget_set c d j e =
        let s = state_of m c in
        let h = held_data_is s d j b i e in
        ap (with_set s b) is
        ∙ ap (λ (n : ℕ). with_set s n (without s n i)) (sym h.1)
        ∙ ap (λ (n : ℕ). with_set s d (without s d n)) (sym h.2)
        ∙ sym (drop_data s d j (orderly m) h.0)

  -- ---- a slot

  module _ (r i : ℕ) (b : RegionBlock) (lt : r < m.plan.region) (in_row : i < length (get_or (table_of m.plan m.table) r []))
      (z : RegionBlock) (is : slots_of b ≡ set (slots_of (get_or m.table r z)) i dead) where
    marked_row : slots_of b ≡ set (get_or (table_of m.plan m.table) r []) i dead
    marked_row = is ∙ ap (λ (xs : List Slot). set xs i dead) (sym (row_at_lem m r z lt))

    pub forgotten_slot : Orderly m.plan m.pages (sets_of m.plan m.sets) (table_of m.plan (set m.table r b)) m.reserve
    forgotten_slot =
        let xs = get_or (table_of m.plan m.table) r [] in
        orderly_with_row m r b lt
        (subst (Lesser m.plan.data m.pages xs) (sym marked_row) (lesser_marked m.plan.data m.pages xs i (row_filed m r lt) in_row))

    pub forget_slot :
        (c : Card) (d j : ℕ) → held (state_of m c) d j ≡ Some (1, m.plan.data + r, i) → with_row (state_of m c) r (slots_of b) ≡ dropped (state_of m c) d (eqb j)
    forget_slot c d j e =
        let s = state_of m c in
        let o = orderly m in
        let h = held_slot_is s d j (m.plan.data + r) i e in
        let only = table_one d j m.plan.data s.table (m.plan.data + r) i (omega (arith, o.once d j)) h.1 in
        let same : r ≡ only.place = omega (arith, only.is) in
        ap (with_row s r) marked_row
        ∙ ap (λ (n : ℕ). with_row s n (set (get_or s.table n []) i dead)) same
        ∙ sym (drop_slot s d j o (m.plan.data + r) i h.0 only)
