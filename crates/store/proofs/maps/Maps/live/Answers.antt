-- What is in use and not dead is live.
use Rattle.std.proofs.Common.{arith}
use Rattle.flash.specs.Meaning.{no_card}
use Rattle.rules.proofs.Counts.{all_slots}
use Rattle.store.specs.View.{table_of}
use Rattle.store.proofs.maps.Maps.live.Goals as goal

pub overflow_sub-result : goal.overflow_sub-result
overflow_sub-result c =
    let m = c.args.self.now in
    omega (arith, c.used.ensures, c.dead.ensures no_card, all_slots (table_of m.plan m.table))

pub returns : goal.returns
returns c = λ k.
    let m = c.args.self.now in
    omega (arith, c.used.ensures, c.dead.ensures k, all_slots (table_of m.plan m.table))
