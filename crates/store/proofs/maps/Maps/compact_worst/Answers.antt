use Rattle.std.proofs.Common.{sym, ap, arith}
use Rattle.store.specs.State.{state_of}
use Rattle.store.proofs.RoundLaws.{page_fits, compaction_round}
use Rattle.store.proofs.maps.Maps.compact_worst.Goals as goal

pub slice_bounds-compact-end : goal.slice_bounds-compact-end
slice_bounds-compact-end g c =
    omega (arith, page_fits (state_of c.args.self.now (g.F.Flash.card c.args.flash.now)) _ c.requires.roundable.ready c.requires.roomy, ap (λ x. x.size) c.geometry-size.ensures.is)

pub returns : goal.returns
returns g c =
    let s = state_of c.args.self.now (g.F.Flash.card c.args.flash.now) in
    compaction_round s _ _ c.in-Some.victim c.requires.some_dead (sym c.in-Some.ensures) (cc) c.in_ok-compact.ensures
