-- What each turn of the loop over the blocks keeps.
use Rattle.std.proofs.Common.{◌≡◌}
use Rattle.bringup.specs.Checked.{checked_below, noted_below, summary_below}
use Rattle.bringup.proofs.check.check_flash.Given as goal

-- the blocks so far were checked, noted and summed up
abbrev pub invariant-loop-number : goal.invariant-loop-number
invariant-loop-number g l =
    record {
      leaves : g.F.Flash.card l.flash ≡ checked_below l.number (g.F.Flash.card l.initial.flash);
      notes : l.table ≡ noted_below l.number (g.F.Flash.card l.initial.flash) l.initial.table;
      tells : l.summary ≡ summary_below l.number (g.F.Flash.card l.initial.flash);
    }
