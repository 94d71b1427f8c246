use Rattle.std.proofs.Common.{rules, ◌<◌, get_or, arith}
use Rattle.std.proofs.Output.{has_written_append, has_written_of_eq}
use Rattle.trialcard.proofs.LineLaws.{hex_more}
use Rattle.trialcard.proofs.lines.HexDisplay.fmt.Goals as goal

pub loop-byte-preserved : goal.loop-byte-preserved
loop-byte-preserved g c = λ p.
    let xs = c.args.self.now.0.now in
    let i = c.loop-byte.byte-index in
    let small : get_or xs i 0 < 256 = search rules in
    has_written_of_eq _ _ _ _ _ (hex_more xs i (omega arith) small) (has_written_append _ _ _ _ _ _ (c.loop-byte.invariant p) (search rules))
