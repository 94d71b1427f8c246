-- A page that was programmed can be read, and reads back.
use Rattle.std.proofs.Common.{Ok, sym, refl, ap, ◌∙◌, arith}
use Rattle.std.proofs.lemmas.Option.{none-some}
use Rattle.std.proofs.lemmas.Slice.Eq.{slice_eq-Decides}
use Rattle.std.proofs.lemmas.Bool.Decides.{Decides-eqb}
use Rattle.flash.proofs.RefusalLaws.{CanProgram}
use Rattle.bringup.proofs.CheckLaws.{page_done}
use Rattle.bringup.proofs.check.Buffers.check_page.Goals as goal

pub returns-in_err-read-clause-same : goal.returns-in_err-read-clause-same
returns-in_err-read-clause-same g c =
    let k = g.F.Flash.card c.args.flash.now in
    let can : CanProgram k c.args.block.0 c.args.page k.shape.size =
    record { block = c.requires.inside; page = c.requires.page_inside; bytes = refl; above = c.requires.above } in
    let done =
    page_done k (g.F.Flash.card c.program.new.self) c.args.block.0 c.args.page c.args.size
    c.args.self.now.written c.fill_pattern.new.into _ c.requires.sound can c.requires.sized (omega arith)
    c.fill_pattern.ensures c.in_ok-program.ensures.1 in
    absurd (none-some _ (sym (done.reads c.args.self.now.found (omega arith)) ∙ c.in_err-read.ensures.0))

pub returns-clause-same : goal.returns-clause-same
returns-clause-same g c =
    let k = g.F.Flash.card c.args.flash.now in
    let can : CanProgram k c.args.block.0 c.args.page k.shape.size =
    record { block = c.requires.inside; page = c.requires.page_inside; bytes = refl; above = c.requires.above } in
    let done =
    page_done k (g.F.Flash.card c.program.new.self) c.args.block.0 c.args.page c.args.size
    c.args.self.now.written c.fill_pattern.new.into _ c.requires.sound can c.requires.sized (omega arith)
    c.fill_pattern.ensures c.in_ok-program.ensures.1 in
    let same = slice_eq-Decides Decides-eqb _ _ _ c.eq.ensures in
    ap Ok (same.1 (done.written ∙ sym (done.found c.read.new.into _ c.in_ok-read.ensures.1)))
