-- The set without the page, or the row with the slot dead.
use Rattle.std.proofs.Common.{◌≡◌, ℕ, ◌+◌, ◌-◌, ◌<◌, [], length, get_or, Some, sym, ap, ◌∙◌, subst, arith}
use Rattle.std.proofs.lemmas.List.{length-set}
use Rattle.rules.specs.State.{held}
use Rattle.store.specs.declared.maps.Maps.{Maps}
use Rattle.store.specs.declared.region.Region.{Region}
use Rattle.store.specs.declared.region.Region.TheVariants.{PageMapped, BlockMapped}
use Rattle.store.specs.Places.{Inside, way_of}
use Rattle.store.specs.State.{state_of}
use Rattle.store.specs.View.{table_of}
use Rattle.store.proofs.MapsLaws.{row_length}
use Rattle.store.proofs.ChangeLaws.{state_row, state_set}
use Rattle.store.proofs.ForgetLaws.{left_is, forgotten_set, forget_set, forgotten_slot, forget_slot}
use Rattle.store.proofs.maps.Maps.forget.Goals as goal

-- ---- a page of a data block

-- the block is one of the plan's
of_data :
    (m : Maps) (x : Region) (b i n : ℕ) → x ≡ BlockMapped → Inside x b i m.plan m.pages m.table → n ≡ b → n < m.plan.data
of_data m x b i n e h f =
    let in_data = subst (λ (y : Region). Inside y b i m.plan m.pages m.table) e h in
    omega (arith, in_data.0)

pub invariant_of-self-clause-orderly : goal.invariant_of-self-clause-orderly
invariant_of-self-clause-orderly c =
    let m = c.args.self.now in
    let b = c.logical_block-number.result.0 in
    let i = c.args.place.2 in
    let in_data = of_data m c.args.place.0 c.args.place.1.0 i b c.in-BlockMapped.is c.requires c.logical_block-number.ensures in
    let is = left_is m b i _ c.with.result c.without.result in_data c.with.ensures c.without.ensures in
    ∣ forgotten_set m b i c.without.result is ∣₁

pub returns-in-BlockMapped : goal.returns-in-BlockMapped
returns-in-BlockMapped c = λ k d j e.
    let m = c.args.self.now in
    let b = c.logical_block-number.result.0 in
    let i = c.args.place.2 in
    let in_data = of_data m c.args.place.0 c.args.place.1.0 i b c.in-BlockMapped.is c.requires c.logical_block-number.ensures in
    let is = left_is m b i _ c.with.result c.without.result in_data c.with.ensures c.without.ensures in
    let here : held (state_of m k) d j ≡ Some (2, b, i) =
    e ∙ ap (λ (x : Region). Some (way_of x, c.args.place.1.0, i)) c.in-BlockMapped.is ∙ ap (λ (n : ℕ). Some (2, n, i)) (sym c.logical_block-number.ensures) in
    state_set m.plan m.pages m.sets m.table m.reserve k b c.without.result ∙ forget_set m b i c.without.result is k d j here

-- ---- a slot

-- the block is one of the region, and the slot is in use
record OfRegion (m : Maps) (b i r : ℕ) : Type 0 where
  block : b ≡ m.plan.data + r
  inside : r < m.plan.region
  slot : i < length (get_or (table_of m.plan m.table) r [])

of_region :
    (m : Maps) (x : Region) (b i r : ℕ) → x ≡ PageMapped → Inside x b i m.plan m.pages m.table → r ≡ b - m.plan.data → OfRegion m b i r
of_region m x b i r e h f =
    let its_region = subst (λ (y : Region). Inside y b i m.plan m.pages m.table) e h in
    record {
      block = omega (arith, its_region.0);
      inside = omega (arith, its_region.0, its_region.1);
      slot = subst (λ (n : ℕ). i < length (get_or (table_of m.plan m.table) n [])) (sym f) its_region.2;
    }

pub mark-requires : goal.mark-requires
mark-requires c =
    let m = c.args.self.now in
    let r = c.region_place-row.result in
    let at = of_region m c.args.place.0 c.args.place.1.0 c.args.place.2 r c.in-PageMapped.is c.requires c.region_place-row.ensures in
    omega (arith, at.slot, row_length m r c.index-table-row.result at.inside)

pub invariant_of-self-in-PageMapped-clause-orderly : goal.invariant_of-self-in-PageMapped-clause-orderly
invariant_of-self-in-PageMapped-clause-orderly c =
    let m = c.args.self.now in
    let r = c.region_place-row.result in
    let i = c.args.place.2 in
    let b = c.mark.new.self in
    let at = of_region m c.args.place.0 c.args.place.1.0 i r c.in-PageMapped.is c.requires c.region_place-row.ensures in
    ∣ forgotten_slot m r i b at.inside at.slot c.index-table-row.result c.mark.ensures ∣₁

pub invariant_of-self-in-PageMapped-clause-wide_table : goal.invariant_of-self-in-PageMapped-clause-wide_table
invariant_of-self-in-PageMapped-clause-wide_table c = length-set c.args.self.now.table c.region_place-row.result c.mark.new.self ∙ c.args.self.now.wide_table

pub returns-in-PageMapped : goal.returns-in-PageMapped
returns-in-PageMapped c = λ k d j e.
    let m = c.args.self.now in
    let r = c.region_place-row.result in
    let i = c.args.place.2 in
    let b = c.mark.new.self in
    let at = of_region m c.args.place.0 c.args.place.1.0 i r c.in-PageMapped.is c.requires c.region_place-row.ensures in
    let here : held (state_of m k) d j ≡ Some (1, m.plan.data + r, i) =
    e ∙ ap (λ (x : Region). Some (way_of x, c.args.place.1.0, i)) c.in-PageMapped.is ∙ ap (λ (n : ℕ). Some (1, n, i)) at.block in
    state_row m.plan m.pages m.sets m.table m.reserve k r b ∙ forget_slot m r i b at.inside at.slot c.index-table-row.result c.mark.ensures k d j here
