use Rattle.std.proofs.Common.{length, sym, refl, ◌∙◌, arith}
use Rattle.chips.proofs.Cards.{refused, read_long, read_within}
use Rattle.chips.proofs.layout.Layout.read_page.Goals as goal

pub returns-in_err-check_read : goal.returns-in_err-check_read
returns-in_err-check_read g c = refused _ _ _ _ _ _ c.from_residual.ensures.1 refl c.in_err-check_read.ensures

pub get-requires : goal.get-requires
get-requires g c =
    let within = read_within g.row.HEADER c.args.self.now.geometry c.args.block.0 c.args.page (length c.args.into.now) c.in_ok-check_read.ensures in
    omega (arith, within, c.page_start.ensures, c.requires)

pub returns : goal.returns
returns g c =
    let long = read_long g.row.HEADER c.args.self.now.geometry c.args.block.0 c.args.page (length c.args.into.now) c.in_ok-check_read.ensures in
    (sym c.in_ok-check_read.ensures, c.get.ensures ∙ rw (c.page_start.ensures, long) refl)
