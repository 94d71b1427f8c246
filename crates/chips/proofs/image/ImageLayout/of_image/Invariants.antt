use Rattle.std.proofs.Common.{◌≡◌, ◌-◌, map}
use Rattle.std.specs.List.{range_with_len}
use Rattle.chips.specs.Image.{first_fault, block_fault}
use Rattle.chips.proofs.image.ImageLayout.of_image.Given as goal

abbrev pub invariant-loop-number : goal.invariant-loop-number
invariant-loop-number l =
    first_fault (map (block_fault l.layout.geometry l.memory) (range_with_len l.number (l.layout.geometry.blocks - l.number)))
    ≡ first_fault (map (block_fault l.layout.geometry l.memory) (range_with_len 0 l.layout.geometry.blocks))
