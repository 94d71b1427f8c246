-- The erase count of a good block is that of the block below.
use Rattle.std.proofs.Common.{refl, rules}
use Rattle.layers.proofs.GoodLaws.{measure_below}
use Rattle.layers.proofs.good.GoodBlocksFlash.erase_count.Goals as goal

pub returns : goal.returns
returns g c =
    measure_below c.args.self.now.bad (λ y. y.erases) (g.F.Flash.card c.args.self.now.flash) c.args.block.0 c.below.result _ refl
    c.below.ensures (search rules)
