-- So many rounds were made as the tally counts.
use Rattle.std.proofs.Common.{◌-◌, ◌*◌}
use Rattle.store.specs.State.{state_of}
use Rattle.store.proofs.RoundLaws.{MakingRoom, count_of}
use Rattle.store.proofs.maps.Maps.make_room.Given as goal

abbrev pub invariant-loop-tally : goal.invariant-loop-tally
invariant-loop-tally g l =
    MakingRoom l.slots (state_of l.initial.self (g.F.Flash.card l.initial.flash)) (state_of l.self (g.F.Flash.card l.flash)) l.tally

abbrev pub decreases-loop-tally : goal.decreases-loop-tally
decreases-loop-tally g l = 2 * l.slots - count_of l.tally
