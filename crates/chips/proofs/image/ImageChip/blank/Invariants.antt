use Rattle.std.proofs.Common.{◌≡◌, ◌*◌, ◌++◌, drop}
use Rattle.chips.specs.Image.{block_length, fresh_block, repeated}
use Rattle.chips.proofs.image.ImageChip.blank.Given as goal

abbrev pub invariant-loop-block : goal.invariant-loop-block
invariant-loop-block l =
    l.memory ≡ repeated l.block (fresh_block l.layout.geometry) ++ drop (l.block * block_length l.layout.geometry) l.initial.memory
