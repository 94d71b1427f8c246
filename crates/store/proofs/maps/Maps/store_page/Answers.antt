use Rattle.std.proofs.Common.{sym, refl, ◌∙◌, arith, length-set}
use Rattle.store.proofs.AppendLaws.{slot_room, store_accepted, store_is, store_orderly}
use Rattle.store.proofs.maps.Maps.store_page.Goals as goal

pub returns-in_err-program : goal.returns-in_err-program
returns-in_err-program g c =
    let m = c.args.self.now in
    let k = g.F.Flash.card c.args.flash.now in
    let ok = store_accepted m k c.args.block.0 c.args.page c.args.bytes.now c.requires c.in-Some.place (sym c.in-Some.ensures) c.index-self-place.result _ _ c.region_block.ensures refl in
    cc (ok, c.in_err-program.ensures.0)

pub append-requires : goal.append-requires
append-requires g c =
    let m = c.args.self.now in
    let k = g.F.Flash.card c.args.flash.now in
    let room = slot_room m k c.args.block.0 c.args.page c.args.bytes.now c.requires c.in-Some.place (sym c.in-Some.ensures) c.index-table-place.result in
    omega (arith, m.few_pages)

pub invariant_of-self-clause-wide_table : goal.invariant_of-self-clause-wide_table
invariant_of-self-clause-wide_table g c = length-set c.args.self.now.table c.in-Some.place c.append.new.self ∙ c.args.self.now.wide_table

pub invariant_of-self-clause-orderly : goal.invariant_of-self-clause-orderly
invariant_of-self-clause-orderly g c =
    let m = c.args.self.now in
    let k = g.F.Flash.card c.args.flash.now in
    ∣ store_orderly m k c.args.block.0 c.args.page c.args.bytes.now c.requires c.in-Some.place (sym c.in-Some.ensures) c.index-self-place.result _ _ c.region_block.ensures refl (g.F.Flash.card c.program.new.self) c.in_ok-program.ensures.1 c.append.new.self c.index-table-place.result c.append.ensures.slots ∣₁

pub returns : goal.returns
returns g c =
    let m = c.args.self.now in
    let k = g.F.Flash.card c.args.flash.now in
    store_is m k c.args.block.0 c.args.page c.args.bytes.now c.requires c.in-Some.place (sym c.in-Some.ensures) c.index-self-place.result _ _ c.region_block.ensures refl (g.F.Flash.card c.program.new.self) c.in_ok-program.ensures.1 c.append.new.self c.index-table-place.result c.append.ensures.slots
