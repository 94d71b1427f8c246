use Rattle.std.proofs.Common.{◌≡◌, length, None, sym, ap, ◌∙◌}
use Rattle.std.proofs.lemmas.Result.{err_from_is_err_and}
use Rattle.flash.specs.declared.geometry.Geometry.{Geometry}
use Rattle.chips.specs.Image.{room_fault, block_fault, image_fault}
use Rattle.chips.proofs.FaultLaws.{first_more, first_here, first_end}
use Rattle.chips.proofs.ImageFaults.{room_good, image_blocks, image_short}
use Rattle.chips.proofs.ImageLaws.{block_end}
use Rattle.chips.proofs.image.ImageLayout.of_image.Goals as goal

pub returns-in_err-layout-clause-fault : goal.returns-in_err-layout-clause-fault
returns-in_err-layout-clause-fault c =
    let p = err_from_is_err_and c.from_residual.result c.from_residual.ensures.1 in
    rw (p.1, p.2) (image_short c.args.geometry c.args.memory.now _ c.in_err-layout.ensures.fault)

pub block_fault-requires : goal.block_fault-requires
block_fault-requires c =
    let g = c.in_ok-layout.layout.geometry in
    let m = c.args.memory.now in
    let room : None ≡ room_fault g (length m) = rw c.in_ok-layout.ensures.measures c.in_ok-layout.ensures.fault in
    block_end g m (room_good g (length m) (sym room)).1 c.loop-number.number c.loop-number-test.true

pub returns-in_err-block_fault-clause-fault : goal.returns-in_err-block_fault-clause-fault
returns-in_err-block_fault-clause-fault c =
    let g = c.in_ok-layout.layout.geometry in
    let m = c.args.memory.now in
    let room : None ≡ room_fault g (length m) = rw c.in_ok-layout.ensures.measures c.in_ok-layout.ensures.fault in
    let p = err_from_is_err_and c.from_residual-in_err-block_fault.result c.from_residual-in_err-block_fault.ensures.1 in
    rw (p.1, p.2)
    (first_here (block_fault g m) c.loop-number.number g.blocks _ c.loop-number-test.true c.in_err-block_fault.ensures
    ∙ c.loop-number.invariant ∙ image_blocks g m room ∙ ap (λ (h : Geometry). image_fault h m) c.in_ok-layout.ensures.measures)

pub loop-number-preserved : goal.loop-number-preserved
loop-number-preserved c =
    let g = c.in_ok-layout.layout.geometry in
    first_more (block_fault g c.args.memory.now) c.loop-number.number g.blocks c.loop-number-test.true c.in_ok-block_fault.ensures
    ∙ c.loop-number.invariant

pub returns-clause-fault : goal.returns-clause-fault
returns-clause-fault c =
    let g = c.in_ok-layout.layout.geometry in
    let m = c.args.memory.now in
    let room : None ≡ room_fault g (length m) = rw c.in_ok-layout.ensures.measures c.in_ok-layout.ensures.fault in
    first_end (block_fault g m) c.loop-number.number g.blocks c.loop-number-test.false
    ∙ c.loop-number.invariant ∙ image_blocks g m room ∙ ap (λ (h : Geometry). image_fault h m) c.in_ok-layout.ensures.measures
