use Rattle.std.proofs.Common.{length, string_bytes}
use Rattle.trialcard.proofs.LineLaws.{Unprinted}
use Rattle.trialcard.proofs.lines.push_lines.Given as goal

abbrev pub invariant-loop-fields : goal.invariant-loop-fields
invariant-loop-fields l = Unprinted (string_bytes l.initial.text) l.answers (string_bytes l.text) l.rest

abbrev pub decreases-loop-fields : goal.decreases-loop-fields
decreases-loop-fields l = length l.rest
