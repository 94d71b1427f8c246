-- The rows passed are retired, the others are as they were, and what is left of the region's rows is counted.
use Rattle.std.proofs.Common.{◌≡◌, ◌+◌, map}
use Rattle.rules.specs.Moves.{retire, of_block}
use Rattle.store.specs.View.{slots_of}
use Rattle.store.proofs.SlotLaws.{turned_below}
use Rattle.store.proofs.maps.Maps.retire.Given as goal

abbrev pub invariant-loop-row : goal.invariant-loop-row
invariant-loop-row l =
    (l.row-index + l.left ≡ l.initial.left)
    × (map slots_of l.row-items ≡ turned_below (map (retire (of_block l.block.0))) l.row-index (map slots_of l.initial.row-items))
