use Rattle.std.proofs.Common.{◌≡◌, ◌-◌, length}
use Rattle.store.specs.Calls.{state_in}
use Rattle.worklist.proofs.RunLaws.{Underway}
use Rattle.worklist.proofs.run.run.Given as goal

abbrev pub invariant-loop-taken : goal.invariant-loop-taken
invariant-loop-taken g l =
    record {
      same_list : l.reader.list.now ≡ l.list;
      same_size : l.reader.size ≡ l.size;
      underway : Underway l.list l.size (state_in l.initial.store.maps (g.F.Flash.card l.initial.store.flash)) l.initial.answers l.initial.area l.reader.place l.total (state_in l.store.maps (g.F.Flash.card l.store.flash)) l.answers l.area;
    }

abbrev pub decreases-loop-taken : goal.decreases-loop-taken
decreases-loop-taken g l = length l.list - l.reader.place
