-- What each turn of the search keeps: so many good blocks were passed as are no longer ahead.
use Rattle.std.proofs.Common.{◌≡◌, ◌+◌, length}
use Rattle.layers.specs.Good.{good_numbers}
use Rattle.layers.proofs.good.GoodBlocks.below.Given as goal

abbrev pub invariant-loop-number : goal.invariant-loop-number
invariant-loop-number g l = l.ahead + length (good_numbers l.fn.self.bad l.number) ≡ l.initial.ahead
