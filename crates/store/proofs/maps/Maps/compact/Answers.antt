use Rattle.std.proofs.Common.{length, refl, ◌∙◌, length-set}
use Rattle.store.proofs.CompactLaws.{collect_copies, collect_erases, collected, collected_orderly}
use Rattle.store.proofs.maps.Maps.compact.Goals as goal

pub copy_live-requires : goal.copy_live-requires
copy_live-requires g c =
    let m = c.args.self.now in
    let k = g.F.Flash.card c.args.flash.now in
    collect_copies m k c.args.victim (length c.args.page.now) c.requires c.index-self-victim.result _ _ c.region_block-from.ensures c.region_block-to.ensures

pub returns-in_err-erase : goal.returns-in_err-erase
returns-in_err-erase g c =
    let m = c.args.self.now in
    let k = g.F.Flash.card c.args.flash.now in
    let copies = c.in_ok-copies.ensures in
    let ok = collect_erases m k c.args.victim (length c.args.page.now) c.requires _ c.index-self-victim.result refl _ _ c.region_block-from.ensures c.region_block-to.ensures (g.F.Flash.card c.copy_live.new.flash) copies.1 in
    cc (ok, c.in_err-erase.ensures.0)

pub invariant_of-self-clause-wide_table : goal.invariant_of-self-clause-wide_table
invariant_of-self-clause-wide_table g c = length-set _ _ _ ∙ length-set _ _ _ ∙ c.args.self.now.wide_table

pub invariant_of-self-clause-orderly : goal.invariant_of-self-clause-orderly
invariant_of-self-clause-orderly g c =
    let m = c.args.self.now in
    let k = g.F.Flash.card c.args.flash.now in
    let copies = c.in_ok-copies.ensures in
    let blank = c.empty.ensures in
    let after = collected_orderly m k c.args.victim (length c.args.page.now) c.requires _ c.index-self-victim.result refl _ _ c.region_block-from.ensures c.region_block-to.ensures (g.F.Flash.card c.copy_live.new.flash) copies.1 c.in_ok-copies.copies c.empty.result copies.0 blank (g.F.Flash.card c.erase.new.self) c.in_ok-erase.ensures.1 in
    ∣ after ∣₁

pub returns : goal.returns
returns g c =
    let m = c.args.self.now in
    let k = g.F.Flash.card c.args.flash.now in
    let copies = c.in_ok-copies.ensures in
    collected m k c.args.victim (length c.args.page.now) c.requires _ c.index-self-victim.result refl _ _ c.region_block-from.ensures c.region_block-to.ensures (g.F.Flash.card c.copy_live.new.flash) copies.1 c.in_ok-copies.copies c.empty.result copies.0 c.empty.ensures (g.F.Flash.card c.erase.new.self) c.in_ok-erase.ensures.1
