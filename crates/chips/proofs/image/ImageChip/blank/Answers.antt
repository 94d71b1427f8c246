use Rattle.std.proofs.Common.{◌≡◌, length, None, sym, ap, ◌∙◌, arith}
use Rattle.flash.specs.declared.geometry.Geometry.{Geometry}
use Rattle.chips.specs.Image.{room_fault, blank_image}
use Rattle.chips.proofs.FreshLaws.{fresh_more, fresh_all, blank_image_lem}
use Rattle.chips.proofs.ImageFaults.{room_good}
use Rattle.chips.proofs.ImageLaws.{block_end}
use Rattle.chips.proofs.image.ImageChip.blank.Goals as goal

pub blank_block-requires : goal.blank_block-requires
blank_block-requires c =
    let g = c.in_ok-layout.layout.geometry in
    let m = c.args.memory.now in
    let room : None ≡ room_fault g (length m) = rw c.in_ok-layout.ensures.measures c.in_ok-layout.ensures.fault in
    omega (arith, block_end g m (room_good g (length m) (sym room)).1 c.loop-block.block c.loop-block-test.true, c.loop-block.auto.memory)

pub loop-block-preserved : goal.loop-block-preserved
loop-block-preserved c =
    fresh_more c.in_ok-layout.layout.geometry c.args.memory.now c.loop-block.memory _ c.loop-block.block c.loop-block.invariant c.blank_block.ensures

pub returns-clause-fresh : goal.returns-clause-fresh
returns-clause-fresh c =
    let m = c.args.memory.now in
    let all =
    fresh_all c.in_ok-layout.layout.geometry m c.loop-block.memory c.loop-block.block (omega arith) c.loop-block.invariant
    ∙ ap (λ (h : Geometry). blank_image h m) c.in_ok-layout.ensures.measures in
    blank_image_lem c.args.geometry m c.loop-block.memory c.in_ok-layout.ensures.fault all
