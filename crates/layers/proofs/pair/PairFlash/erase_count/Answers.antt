-- The erase count of a block of a pair is that of the block on its side.
use Rattle.std.proofs.Common.{refl, rules}
use Rattle.layers.proofs.PairLaws.{pair_measure}
use Rattle.layers.proofs.pair.PairFlash.erase_count.Goals as goal

pub returns : goal.returns
returns g c =
    pair_measure (λ y. y.erases) (g.L.Flash.card c.args.self.now.left) (g.R.Flash.card c.args.self.now.right) c.args.block.0 c.locate.result _ refl
    c.locate.ensures (search rules)
