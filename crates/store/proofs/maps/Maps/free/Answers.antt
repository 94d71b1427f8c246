-- What is not in use is free.
use Rattle.std.proofs.Common.{arith}
use Rattle.store.proofs.CountLaws.{used_fits, all_counted}
use Rattle.store.proofs.maps.Maps.free.Goals as goal

pub overflow_sub-result : goal.overflow_sub-result
overflow_sub-result c = omega (arith, c.capacity.ensures, c.used.ensures, used_fits c.args.self.now)

pub returns-clause-all : goal.returns-clause-all
returns-clause-all c = λ k. omega (arith, c.capacity.ensures, c.used.ensures, all_counted c.args.self.now k)
