-- Bit `page` of the number is the page; past the 64th there is none.
use Rattle.std.proofs.Common.{sym, ◌∙◌, arith}
use Rattle.std.proofs.lemmas.Bool.{le-ltb}
use Rattle.rules.proofs.SetLaws.{has_high}
use Rattle.rules.proofs.PageSetLaws.{has_bit}
use Rattle.rules.proofs.pages.PageSet.has.Goals as goal

pub returns-then-page-lt64 : goal.returns-then-page-lt64
returns-then-page-lt64 c = has_bit c.args.self.0 c.args.page

pub returns-else-page-lt64 : goal.returns-else-page-lt64
returns-else-page-lt64 c =
    le-ltb c.args.page 64 (omega arith) ∙ sym (has_high 64 c.args.self.0 c.args.page (omega arith) (omega arith))
