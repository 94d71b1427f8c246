-- What each turn of the loop over the bad blocks keeps.
use Rattle.std.proofs.Common.{◌≡◌, length, take}
use Rattle.layers.specs.Good.{bad_table}
use Rattle.layers.proofs.good.GoodBlocks.new.Given as goal

-- the blocks given so far are marked
abbrev pub invariant-loop-block : goal.invariant-loop-block
invariant-loop-block g l = (l.marks ≡ bad_table (take l.block-index l.bad)) × (length l.marks ≡ 256)
