-- The five trials tell what the card says of them.
use Rattle.std.proofs.Common.{replicate, refl, ap, ◌∙◌, arith}
use Rattle.std.proofs.lemmas.List.{length-take-le}
use Rattle.bringup.proofs.ProbeLaws.{five_trials}
use Rattle.bringup.proofs.probe.probe_refusals.Goals as goal

pub returns : goal.returns
returns g c =
    let k = g.F.Flash.card c.args.flash.now in
    let d = g.F.Flash.card c.erase_past-no_block.new.flash in
    let f = g.F.Flash.card c.program_below-below_floor.new.flash in
    let size = ap (λ x. x.size) c.geometry-pages.ensures.is in
    record {
      tells = five_trials k d f _ _ _ _ _ _ _ _ c.erase_past-no_block.ensures.leaves c.program_below-below_floor.ensures.leaves
          (ap (λ x. x.pages) c.geometry-pages.ensures.is)
          (length-take-le c.geometry-pages.result.size (replicate 4096 0) (omega (arith, size, c.geometry-pages.ensures.sound.size_high)) ∙ size)
          refl
          c.erase_past-no_block.ensures.tells c.read_refused-no_page.ensures c.read_refused-wrong_length.ensures
          c.program_below-below_floor.ensures.tells c.erase_worn-worn_out.ensures.tells;
      leaves = c.erase_worn-worn_out.ensures.leaves ∙ c.program_below-below_floor.ensures.leaves ∙ c.erase_past-no_block.ensures.leaves;
    }
