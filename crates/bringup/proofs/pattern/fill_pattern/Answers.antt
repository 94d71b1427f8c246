-- The bytes so far are those of the pattern.
use Rattle.std.proofs.Common.{◌<◌, length, arith}
use Rattle.std.proofs.lemmas.List.Edits.{fill_by_more}
use Rattle.std.proofs.lemmas.List.FromFn.{fill_by_all}
use Rattle.bringup.specs.Pattern.{pattern_byte, pattern}
use Rattle.bringup.proofs.pattern.fill_pattern.Goals as goal

pub loop-place-preserved : goal.loop-place-preserved
loop-place-preserved c =
    let h : c.loop-place.place < length c.loop-place.into = omega arith in
    rw c.pattern_byte.ensures (fill_by_more (pattern_byte c.args.block.0 c.args.page) _ _ 0 h c.loop-place.invariant)

pub returns : goal.returns
unfolding pattern
returns c =
    fill_by_all (pattern_byte c.args.block.0 c.args.page) c.loop-place.into _ 0 c.loop-place.auto.into
    (λ k h. c.loop-place.invariant k (omega arith))
