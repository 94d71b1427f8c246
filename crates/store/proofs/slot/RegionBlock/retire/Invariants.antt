-- The slots passed are retired, the others are as they were, and what is left of the used ones is counted.
use Rattle.std.proofs.Common.{◌≡◌, ◌+◌, map}
use Rattle.rules.specs.Moves.{retire, of_block}
use Rattle.store.specs.View.{slot_of}
use Rattle.store.proofs.SlotLaws.{turned_below}
use Rattle.store.proofs.slot.RegionBlock.retire.Given as goal

abbrev pub invariant-loop-slot : goal.invariant-loop-slot
invariant-loop-slot l =
    (l.slot-index + l.left ≡ l.initial.left)
    × (map slot_of l.slot-items ≡ turned_below (retire (of_block l.block.0)) l.slot-index (map slot_of l.initial.slot-items))
