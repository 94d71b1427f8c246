use Rattle.std.proofs.Common.{refl, arith}
use Rattle.store.specs.State.{state_of}
use Rattle.store.proofs.PlaceLaws.{rest_collects, rests, works}
use Rattle.store.proofs.maps.Maps.rest.Goals as goal

pub returns-then-free-self : goal.returns-then-free-self
returns-then-free-self g c =
    let k = g.F.Flash.card c.args.flash.now in
    let s = state_of c.args.self.now k in
    let d = c.default.ensures in
    rests s _ c.requires _ _ (omega (arith, c.if-free-self.true, c.free.ensures.is k)) d.0 d.1.0 d.1.1.0 d.1.1.1 refl

pub collect-requires : goal.collect-requires
collect-requires g c =
    let k = g.F.Flash.card c.args.flash.now in
    let s = state_of c.args.self.now k in
    record {
      roundable = rest_collects s _ c.requires (omega (arith, c.if-free-self.false, c.free.ensures.is k));
      roomy = c.requires.area_long;
    }

pub returns : goal.returns
returns g c =
    let k = g.F.Flash.card c.args.flash.now in
    let s = state_of c.args.self.now k in
    works s _ c.requires c.in_ok-tally.tally _ _ (omega (arith, c.if-free-self.false, c.free.ensures.is k)) c.in_ok-tally.ensures c.report.ensures
