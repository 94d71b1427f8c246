-- One row more in each turn.
use Rattle.std.proofs.Common.{◌≡◌, ℕ, ◌<◌, ◌≤◌, List, map, length, ap, ◌∙◌, arith}
use Rattle.std.proofs.lemmas.List.{set-get_or}
use Rattle.rules.specs.Moves.{retire, of_block}
use Rattle.rules.specs.Ready.{Orderly}
use Rattle.rules.specs.State.{Slot}
use Rattle.store.specs.declared.slot.RegionBlock.{RegionBlock}
use Rattle.store.specs.declared.maps.Maps.{Maps}
use Rattle.store.specs.Changes.{with_maps}
use Rattle.store.specs.State.{state_of}
use Rattle.store.specs.View.{slots_of, table_of, sets_of}
use Rattle.store.proofs.SlotLaws.{turned_below, as_many, turned_more, turned_first}
use Rattle.store.proofs.ChangeLaws.{orderly_retired}
use Rattle.store.proofs.MapsLaws.{orderly}
use Rattle.store.proofs.maps.Maps.retire.Goals as goal

pub loop-row-preserved : goal.loop-row-preserved
loop-row-preserved c =
    let m = c.args.self.now in
    let f : List Slot → List Slot = map (retire (of_block c.args.block.0)) in
    let h : c.loop-row.row-index < length m.table = omega (arith, m.wide_table, c.loop-row-test.true) in (
      omega (arith, c.loop-row.invariant.0),
      turned_more slots_of f c.loop-row.row-index m.table c.loop-row.row-items c.loop-row.invariant.1 c.retire.new.self c.row-item.result h c.retire.ensures,
    )

-- the table once all rows of the region are passed
all_rows :
    (d r : ℕ) (m : Maps) (rows : List RegionBlock) → map slots_of rows ≡ turned_below (map (retire (of_block d))) r (map slots_of m.table) → m.plan.region ≤ r →
    table_of m.plan rows ≡ map (map (retire (of_block d))) (table_of m.plan m.table)
all_rows d r m rows so_far h = turned_first slots_of (map (retire (of_block d))) r m.table rows so_far m.plan.region h

-- maps whose table is that one stay orderly
retired_orderly :
    (d : ℕ) (m : Maps) (rows : List RegionBlock) → table_of m.plan rows ≡ map (map (retire (of_block d))) (table_of m.plan m.table) →
    Orderly m.plan m.pages (sets_of m.plan m.sets) (table_of m.plan rows) m.reserve
retired_orderly d m rows e =
    rw e (orderly_retired m.plan m.pages (sets_of m.plan m.sets) (table_of m.plan m.table) m.reserve (of_block d) (orderly m))

pub invariant_of-self-then-left-eq0-clause-wide_table : goal.invariant_of-self-then-left-eq0-clause-wide_table
invariant_of-self-then-left-eq0-clause-wide_table c =
    let m = c.args.self.now in
    ap length (set-get_or c.loop-row.row-items c.loop-row.row-index _)
    ∙ as_many slots_of (map (retire (of_block c.args.block.0))) c.loop-row.row-index m.table c.loop-row.row-items c.loop-row.invariant.1
    ∙ m.wide_table

pub invariant_of-self-then-left-eq0-clause-orderly : goal.invariant_of-self-then-left-eq0-clause-orderly
invariant_of-self-then-left-eq0-clause-orderly c =
    let m = c.args.self.now in
    let passed : m.plan.region ≤ c.loop-row.row-index = omega (arith, c.loop-row.invariant.0, c.if-left-eq0.true) in
    ∣ retired_orderly c.args.block.0 m _
    (ap (table_of m.plan) (set-get_or c.loop-row.row-items c.loop-row.row-index _)
    ∙ all_rows c.args.block.0 c.loop-row.row-index m c.loop-row.row-items c.loop-row.invariant.1 passed) ∣₁

pub invariant_of-self-clause-orderly : goal.invariant_of-self-clause-orderly
invariant_of-self-clause-orderly c =
    let m = c.args.self.now in
    let passed : m.plan.region ≤ c.loop-row.row-index = omega (arith, m.wide_table, m.few_blocks, c.loop-row-test.false) in
    ∣ retired_orderly c.args.block.0 m _ (all_rows c.args.block.0 c.loop-row.row-index m c.loop-row.row-items c.loop-row.invariant.1 passed) ∣₁

pub returns-then-left-eq0 : goal.returns-then-left-eq0
returns-then-left-eq0 c = λ k.
    let m = c.args.self.now in
    let passed : m.plan.region ≤ c.loop-row.row-index = omega (arith, c.loop-row.invariant.0, c.if-left-eq0.true) in
    ap (λ (t : List (List Slot)). with_maps (state_of m k) (state_of m k).sets t m.reserve)
    (ap (table_of m.plan) (set-get_or c.loop-row.row-items c.loop-row.row-index _)
    ∙ all_rows c.args.block.0 c.loop-row.row-index m c.loop-row.row-items c.loop-row.invariant.1 passed)

pub returns-after-loop-row : goal.returns-after-loop-row
returns-after-loop-row c = λ k.
    let m = c.args.self.now in
    let passed : m.plan.region ≤ c.loop-row.row-index = omega (arith, m.wide_table, m.few_blocks, c.loop-row-test.false) in
    ap (λ (t : List (List Slot)). with_maps (state_of m k) (state_of m k).sets t m.reserve)
    (all_rows c.args.block.0 c.loop-row.row-index m c.loop-row.row-items c.loop-row.invariant.1 passed)
