-- The bit of the page is set; past the 64th there is nothing to set.
use Rattle.std.proofs.Common.{arith}
use Rattle.rules.proofs.PageSetLaws.{with_is, with_none}
use Rattle.rules.proofs.pages.PageSet.with.Goals as goal

pub returns-then-page-lt64 : goal.returns-then-page-lt64
returns-then-page-lt64 c = with_is c.args.self.0 c.args.page (omega arith) (omega arith)

pub returns-else-page-lt64 : goal.returns-else-page-lt64
returns-else-page-lt64 c = with_none c.args.self.0 c.args.page (omega arith) (omega arith)
