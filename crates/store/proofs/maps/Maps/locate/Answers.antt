-- The block map is asked first, then the slots one by one.
use Rattle.std.proofs.Common.{◌≡◌, ℕ, ◌+◌, ◌-◌, ◌<◌, Bool, true, false, List, [], map, length, get_or, take, Some, None, Option, sym, refl, ap, ◌∙◌, subst, inl, inr, arith, rules, below_more}
use Rattle.std.proofs.lemmas.Bool.{cases_eq}
use Rattle.std.proofs.lemmas.List.{length-map, get_or-map}
use Rattle.rules.specs.declared.block.LogicalBlock.{LogicalBlock}
use Rattle.rules.specs.Sets.{has}
use Rattle.rules.specs.State as rules
use Rattle.rules.specs.State.{dead, is_at, slot_for, place_for}
use Rattle.store.specs.declared.maps.Maps.{Maps}
use Rattle.store.specs.declared.slot.Slot.{Slot}
use Rattle.store.specs.declared.slot.Slot.TheVariants.{Live, Dead}
use Rattle.store.specs.declared.slot.RegionBlock.{RegionBlock}
use Rattle.store.specs.Places.{Place, found_as, Found}
use Rattle.store.specs.State.{state_of}
use Rattle.store.specs.View.{slot_of, slots_of, table_of, sets_of}
use Rattle.store.proofs.TableLaws.{read_row}
use Rattle.store.proofs.MapsLaws.{blocks, set_in_maps}
use Rattle.store.proofs.LocateLaws.{at_true, at_other_block, at_other_page, at_dead, slot_found, slot_none, place_found, place_none, in_region, held_data, held_region}
use Rattle.store.proofs.maps.Maps.locate.Goals as goal

-- the test of the block map, as the state has it
valid_as : (m : Maps) (d i : ℕ) (b : Bool) → d < m.plan.data → b ≡ has (get_or m.sets d (record { 0 = 0 })).0 i → has (get_or (sets_of m.plan m.sets) d 0) i ≡ b
valid_as m d i b h e = ap (λ (g : ℕ). has g i) (set_in_maps m d (record { 0 = 0 }) h) ∙ sym e

-- a slot that is not the page
other_slot : (b : LogicalBlock) (i : ℕ) (x : Slot) → (x ≡ Live b i → ⊥) → is_at b.0 i (slot_of x) ≡ false
other_slot b i Dead ne = at_dead b.0 i
other_slot b i (Live o j) ne =
    elim (cases_eq o.0 b.0) [
      | inl p ↦
          elim (cases_eq j i) [
            | inl q ↦ absurd (ne (ap (λ (n : ℕ). Live (record { 0 = n }) j) p ∙ ap (Live b) q))
            | inr q ↦ at_other_page b.0 i o.0 j q
          ]
      | inr p ↦ at_other_block b.0 i o.0 j p
    ]

-- what the blocks of the region tell of a page, the state's table tells
region_tells :
    (m : Maps) (t : List RegionBlock) (d i : ℕ) → t ≡ take m.plan.region m.table →
    place_for d i m.plan.data (table_of m.plan m.table) ≡ place_for d i m.plan.data (map slots_of t)
region_tells m t d i e = ap (λ (x : List RegionBlock). place_for d i m.plan.data (map slots_of x)) (sym e)

pub returns-then-has-clause-held : goal.returns-then-has-clause-held
returns-then-has-clause-held c = λ k.
    let m = c.args.self.now in
    ap (λ (b : ℕ). Some (2, b, c.args.page)) c.data_block.ensures
    ∙ sym (held_data (state_of m k) c.args.block.0 c.args.page (valid_as m c.args.block.0 c.args.page true c.requires.a_block c.if-has.ensures))

pub loop-slot-preserved : goal.loop-slot-preserved
loop-slot-preserved c =
    let d = c.args.block.0 in
    let i = c.args.page in
    let slot = c.loop-slot.slot in
    let xs = c.used_slots-entry-items.result.now in
    let ne : get_or xs slot (Live (record { 0 = 0 }) 0) ≡ Live c.args.block i → ⊥ = search rules in
    let here : is_at d i (get_or (map slot_of xs) slot dead) ≡ false =
    ap (is_at d i) (get_or-map slot_of xs slot _ dead c.loop-slot-test.true) ∙ other_slot c.args.block i _ ne in
    (c.loop-slot.invariant.0, below_more (λ k. is_at d i (get_or (map slot_of xs) k dead) ≡ false) slot c.loop-slot.invariant.1 here)

pub search-preserved : goal.search-preserved
search-preserved c =
    let d = c.args.block.0 in
    let i = c.args.page in
    let r = c.search.place in
    let t = map slots_of c.rows-row-items.result.now in
    let xs = c.used_slots-entry-items.result.now in
    let row = read_row _ r c.row-item.result xs c.search-test.true c.row-item.is c.used_slots-entry-items.ensures in
    let none = slot_none d i (map slot_of xs) (λ k l. c.loop-slot.invariant.1 k (omega (arith, length-map xs slot_of, c.loop-slot-test.false))) in
    (c.loop-slot.invariant.0, below_more (λ k. slot_for d i (get_or t k []) ≡ None) r c.search.invariant.1 (ap (slot_for d i) row ∙ none))

pub returns-after-search : goal.returns-after-search
returns-after-search c =
    let m = c.args.self.now in
    let d = c.args.block.0 in
    let i = c.args.page in
    let rows = c.rows-row-items.result.now in
    let none = place_none d i m.plan.data (map slots_of rows) (λ r l. c.search.invariant.1 r (omega (arith, length-map rows slots_of, c.search-test.false))) in
    record {
      inside = subst (λ (o : Option Place). Found o m.plan m.pages m.table) (sym c.search.invariant.0) tt;
      held = λ k.
          ap found_as c.search.invariant.0
          ∙ sym (held_region (state_of m k) d i None (valid_as m d i false c.requires.a_block c.if-has.ensures) (region_tells m rows d i c.rows-row-items.ensures ∙ none));
    }

pub returns-then-eq : goal.returns-then-eq
returns-then-eq c =
    let m = c.args.self.now in
    let d = c.args.block.0 in
    let i = c.args.page in
    let r = c.search.place in
    let slot = c.loop-slot.slot in
    let rows = c.rows-row-items.result.now in
    let xs = c.used_slots-entry-items.result.now in
    let row = read_row rows r c.row-item.result xs c.search-test.true c.row-item.is c.used_slots-entry-items.ensures in
    let e : c.region_block.result.0 ≡ m.plan.data + r = c.region_block.ensures in
    let place : r ≡ c.region_block.result.0 - m.plan.data = omega arith in
    let few = blocks m rows c.rows-row-items.ensures in
    let table : map slots_of rows ≡ table_of m.plan m.table = ap (map slots_of) c.rows-row-items.ensures in
    let in_row : slot < length (get_or (map slots_of rows) r []) = omega (arith, ap length row, length-map xs slot_of, c.loop-slot-test.true) in
    let same : get_or xs slot (Live (record { 0 = 0 }) 0) ≡ Live c.args.block i = search rules in
    let here : is_at d i (get_or (map slot_of xs) slot dead) ≡ true =
    ap (is_at d i) (get_or-map slot_of xs slot _ dead c.loop-slot-test.true ∙ ap slot_of same) ∙ at_true d i d i refl refl in
    let first : slot_for d i (get_or (map slots_of rows) r []) ≡ Some slot =
    ap (slot_for d i) row ∙ slot_found d i (map slot_of xs) slot (omega (arith, length-map xs slot_of, c.loop-slot-test.true)) c.loop-slot.invariant.1 here in
    let found = place_found d i m.plan.data (map slots_of rows) r slot (omega (arith, length-map rows slots_of, c.search-test.true)) c.search.invariant.1 first in
    record {
      inside = (
        omega arith,
        omega (arith, few, c.search-test.true),
        subst (λ (k : ℕ). slot < length (get_or (table_of m.plan m.table) k [])) place (subst (λ (t : List (List rules.Slot)). slot < length (get_or t r [])) table in_row),
      );
      held = λ k.
          ap (λ (n : ℕ). in_region (Some (n, slot))) e
          ∙ sym (held_region (state_of m k) d i (Some (m.plan.data + r, slot)) (valid_as m d i false c.requires.a_block c.if-has.ensures) (region_tells m rows d i c.rows-row-items.ensures ∙ found));
    }
