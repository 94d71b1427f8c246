-- What each turn of the loop over the pages keeps.
use Rattle.std.proofs.Common.{◌≡◌}
use Rattle.bringup.specs.Checked.{patterned}
use Rattle.bringup.proofs.check.pattern_block.Given as goal

abbrev pub invariant-loop-page : goal.invariant-loop-page
invariant-loop-page g l =
    (l.mismatched ≡ 0) × (g.F.Flash.card l.flash ≡ patterned (g.F.Flash.card l.initial.flash) l.block.0 l.page)
