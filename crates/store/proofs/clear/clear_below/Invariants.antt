use Rattle.std.proofs.Common.{◌≡◌, ◌≤◌}
use Rattle.rules.specs.Calls.{cleared_below, clearing_below}
use Rattle.store.proofs.clear.clear_below.Given as goal

abbrev pub invariant-loop-number : goal.invariant-loop-number
invariant-loop-number g l =
    (l.erases ≡ clearing_below l.number (g.F.Flash.card l.initial.flash))
    × (g.F.Flash.card l.flash ≡ cleared_below l.number (g.F.Flash.card l.initial.flash))
    × (l.erases ≤ l.number)
