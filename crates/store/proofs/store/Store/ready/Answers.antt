use Rattle.std.proofs.Common.{sym}
use Rattle.store.proofs.AgreeLaws.{in_force}
use Rattle.store.proofs.store.Store.ready.Goals as goal

pub returns : goal.returns
returns g c =
    in_force c.in-Some.maps (g.F.Flash.card c.args.self.now.flash) _ c.in-Some.is c.agrees.ensures.sound (sym c.if-not-agrees.ensures.is)
