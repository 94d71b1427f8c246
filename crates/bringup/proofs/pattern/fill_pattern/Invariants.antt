-- What each turn of the loop over the bytes keeps.
use Rattle.std.proofs.Common.{◌≡◌, ℕ, ◌<◌, get_or}
use Rattle.bringup.specs.Pattern.{pattern_byte}
use Rattle.bringup.proofs.pattern.fill_pattern.Given as goal

abbrev pub invariant-loop-place : goal.invariant-loop-place
invariant-loop-place l = (k : ℕ) → k < l.place → get_or l.into k 0 ≡ pattern_byte l.block.0 l.page k
