-- An erase on a pair is an erase on the side that the block lies on.
use Rattle.layers.specs.Pair.{pair_card}
use Rattle.layers.proofs.PairLaws.{seen_left, seen_right, pair_missing}
use Rattle.layers.proofs.FlashLaws.{missing_erase, no_such_block}
use Rattle.layers.proofs.SeenLaws.{seen_erase}
use Rattle.layers.proofs.pair.PairFlash.erase.Goals as goal

pub returns-in_err-below : goal.returns-in_err-below
returns-in_err-below g c =
    let l = g.L.Flash.card c.args.self.now.left in
    let r = g.R.Flash.card c.args.self.now.right in
    let missing = pair_missing l r c.args.block.0 c.locate.result _ c.locate.ensures c.in_err-below.was in
    no_such_block c.from_residual.result _ _ _ _ c.from_residual.ensures.1 missing.1 (missing_erase (pair_card l r) c.args.block.0 missing.0)

pub returns-in-Left : goal.returns-in-Left
returns-in-Left g c =
    let l = g.L.Flash.card c.args.self.now.left in
    let r = g.R.Flash.card c.args.self.now.right in
    let seen = seen_left l r c.args.block.0 c.locate.result c.locate.ensures c.in_ok-below.was c.in-Left.is in
    seen_erase seen c.erase.result _ c.erase.ensures

pub returns-in-Right : goal.returns-in-Right
returns-in-Right g c =
    let l = g.L.Flash.card c.args.self.now.left in
    let r = g.R.Flash.card c.args.self.now.right in
    let seen = seen_right l r c.args.block.0 c.locate.result c.locate.ensures c.in_ok-below.was c.in-Right.is in
    seen_erase seen c.erase-in-Right.result _ c.erase-in-Right.ensures
