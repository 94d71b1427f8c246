-- The pages so far hold their patterns, and read back.
use Rattle.std.proofs.Common.{◌<◌, ◌≤◌, sym, refl, ap, ◌∙◌, arith}
use Rattle.flash.specs.Meaning.{Shape}
use Rattle.bringup.specs.Checked.{patterned}
use Rattle.bringup.proofs.CheckLaws.{next_page, patterned_more}
use Rattle.bringup.proofs.check.pattern_block.Goals as goal
use Rattle.bringup.proofs.check.pattern_block.Goals.{then-not-branch, else-not-branch}

pub loop-page-init : goal.loop-page-init
unfolding patterned
loop-page-init g c = (refl, refl)

pub check_page-requires : goal.check_page-requires
check_page-requires g c =
    let k = g.F.Flash.card c.args.flash.now in
    let l : c.loop-page.page < k.shape.pages = omega (arith, ap (λ x. x.pages) c.geometry-geometry.ensures.is) in
    let next =
    next_page k c.args.block.0 c.geometry-geometry.ensures.sound c.requires.inside c.requires.blank
    (g.F.Flash.card c.loop-page.flash) c.loop-page.page l c.loop-page.invariant.1 in
    record {
      sound = next.sound;
      sized = ap (λ x. x.size) c.geometry-geometry.ensures.is ∙ sym (ap (λ (t : Shape). t.size) next.shape);
      inside = next.inside;
      page_inside = next.page_inside;
      above = next.above;
    }

pub loop-page-preserved : goal.loop-page-preserved
loop-page-preserved g c =
    let k = g.F.Flash.card c.args.flash.now in
    let l : c.loop-page.page ≤ k.shape.pages = omega (arith, ap (λ x. x.pages) c.geometry-geometry.ensures.is) in (
      elim c.if-not-branch.branch [
        | then-not-branch w ↦ cc (c.check_page.ensures.same, c.in_ok-check_page.was, w.if-not-branch.true)
        | else-not-branch w ↦ w.mismatched-is ∙ c.loop-page.invariant.0
      ],
      patterned_more k c.args.block.0 c.geometry-geometry.ensures.sound c.requires.inside c.requires.blank
          (g.F.Flash.card c.loop-page.flash) (g.F.Flash.card c.check_page.new.flash) c.loop-page.page l c.loop-page.invariant.1
          c.check_page.ensures.leaves,
    )
