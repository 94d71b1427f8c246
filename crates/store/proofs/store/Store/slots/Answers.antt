use Rattle.std.proofs.Common.{ap}
use Rattle.store.specs.Calls.{slots_in}
use Rattle.store.proofs.store.Store.slots.Goals as goal

pub returns : goal.returns
returns g c =
    let k = g.F.Flash.card c.args.self.now.flash in
    cc (c.live.ensures k, c.dead.ensures k, c.free.ensures.is k, ap slots_in c.in-Ok.ensures.is)
