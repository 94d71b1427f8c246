-- The live slots passed are counted, each for its block.
use Rattle.std.proofs.Common.{◌+◌, ◌*◌, map, take}
use Rattle.rules.specs.State.{share_of}
use Rattle.store.specs.View.{slot_of, slots_of}
use Rattle.store.proofs.ShareLaws.{Shares, so_far}
use Rattle.store.proofs.maps.Maps.shares.Given as goal

abbrev pub invariant-loop-row : goal.invariant-loop-row
invariant-loop-row l = Shares l.shares (64 * l.row-index) (share_of (take l.row-index (map slots_of l.row-items)))

abbrev pub invariant-loop-slot : goal.invariant-loop-slot
invariant-loop-slot l =
    Shares l.shares (64 * l.row-index + l.slot-index)
    (so_far (take l.row-index (map slots_of l.row-items)) (map slot_of (take l.slot-index l.slot-items)))
