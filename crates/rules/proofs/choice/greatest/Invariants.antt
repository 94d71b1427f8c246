-- The place so far is the first of the greatest counts so far.
use Rattle.std.proofs.Common.{◌+◌}
use Rattle.rules.proofs.ChoiceLaws.{First}
use Rattle.rules.proofs.choice.greatest.Given as goal

abbrev pub invariant-loop-place : goal.invariant-loop-place
invariant-loop-place g l = First g.T.Counted.tally l.records (l.place + 1) l.best l.most
