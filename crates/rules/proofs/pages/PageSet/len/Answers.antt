-- The ones among 64 bits are the pages.
use Rattle.std.proofs.Common.{arith}
use Rattle.rules.proofs.PageSetLaws.{ones_pages}
use Rattle.rules.proofs.pages.PageSet.len.Goals as goal

pub returns : goal.returns
returns c = ones_pages 64 c.args.self.0 (omega arith)
