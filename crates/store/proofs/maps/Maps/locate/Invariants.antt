-- No block passed and no slot passed holds the page.
use Rattle.std.proofs.Common.{◌≡◌, ℕ, ◌<◌, false, [], map, get_or, None}
use Rattle.rules.specs.State.{slot_for, is_at, dead}
use Rattle.store.specs.View.{slot_of, slots_of}
use Rattle.store.proofs.maps.Maps.locate.Given as goal

abbrev pub invariant-search : goal.invariant-search
invariant-search l =
    (l.found ≡ None)
    × ((k : ℕ) → k < l.place → slot_for l.fn.block.0 l.page (get_or (map slots_of l.row-items) k []) ≡ None)

abbrev pub invariant-loop-slot : goal.invariant-loop-slot
invariant-loop-slot l =
    (l.found ≡ None)
    × ((k : ℕ) → k < l.slot → is_at l.fn.block.0 l.page (get_or (map slot_of l.entry-items) k dead) ≡ false)
