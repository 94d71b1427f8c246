-- An erase on a good block is an erase on the block below.
use Rattle.layers.specs.Good.{good_card}
use Rattle.layers.proofs.GoodLaws.{seen_below, none_below}
use Rattle.layers.proofs.FlashLaws.{missing_erase, no_such_block}
use Rattle.layers.proofs.SeenLaws.{seen_erase}
use Rattle.layers.proofs.good.GoodBlocksFlash.erase.Goals as goal

pub returns-in_err-below : goal.returns-in_err-below
returns-in_err-below g c =
    let t = c.args.self.now.bad in
    let f = g.F.Flash.card c.args.self.now.flash in
    let none = none_below t f c.args.block.0 c.below.result c.below.ensures _ c.in_err-below.was in
    no_such_block c.from_residual.result _ _ _ _ c.from_residual.ensures.1 none.1 (missing_erase (good_card t f) c.args.block.0 none.0)

pub returns : goal.returns
returns g c =
    let t = c.args.self.now.bad in
    let f = g.F.Flash.card c.args.self.now.flash in
    let seen = seen_below t f c.args.block.0 c.below.result c.below.ensures c.in_ok-below.below c.in_ok-below.was in
    seen_erase seen c.erase.result _ c.erase.ensures
