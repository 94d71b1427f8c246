-- The bits of the other set are cleared.
use Rattle.std.proofs.Common.{arith}
use Rattle.rules.proofs.PageSetLaws.{without_is}
use Rattle.rules.proofs.pages.PageSet.without.Goals as goal

pub returns : goal.returns
returns c = without_is c.args.self.0 c.args.other.0 (omega arith) (omega arith)
