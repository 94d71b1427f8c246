use Rattle.std.proofs.Common.{refl, arith}
use Rattle.rules.specs.Calls.{cleared_below, clearing_below}
use Rattle.store.proofs.WearLaws.{clears_next, clears_more}
use Rattle.store.proofs.clear.clear_below.Goals as goal

pub loop-number-init : goal.loop-number-init
unfolding cleared_below clearing_below
loop-number-init g c = (refl, refl, omega arith)

pub clear-requires : goal.clear-requires
clear-requires g c =
    let next = clears_next (g.F.Flash.card c.args.flash.now) (g.F.Flash.card c.loop-number.flash) c.loop-number.number (omega (arith, c.requires.inside, c.loop-number-test.true)) c.requires.lasts c.loop-number.invariant.1 in
    record { inside = next.0; lasts = next.1 }

pub loop-number-preserved : goal.loop-number-preserved
loop-number-preserved g c =
    let inv = c.loop-number.invariant in
    let done = c.in_ok-erases.ensures in
    clears_more (g.F.Flash.card c.args.flash.now) (g.F.Flash.card c.loop-number.flash) (g.F.Flash.card c.clear.new.flash) c.loop-number.number _ _ inv.1 inv.0 inv.2 done.0 done.1
