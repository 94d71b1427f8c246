-- No bit from `pages` on is set; all 64 bits are below any larger number.
use Rattle.std.proofs.Common.{sym, ◌∙◌, arith}
use Rattle.std.proofs.lemmas.Bool.{le-leb}
use Rattle.rules.proofs.PageSetLaws.{within_high, within_low}
use Rattle.rules.proofs.pages.PageSet.within.Goals as goal

pub returns-then-pages-ge64 : goal.returns-then-pages-ge64
returns-then-pages-ge64 c =
    le-leb 64 c.args.pages c.if-pages-ge64.true
    ∙ sym (within_high c.args.self.0 c.args.pages (omega arith) c.if-pages-ge64.true)

pub returns-else-pages-ge64 : goal.returns-else-pages-ge64
returns-else-pages-ge64 c = within_low c.args.self.0 c.args.pages
