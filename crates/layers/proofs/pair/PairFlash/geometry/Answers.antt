-- The measures of a pair, and that it is sound.
use Rattle.layers.proofs.PairLaws.{pair_geometry, pair_no_geometry, pair_sound}
use Rattle.layers.proofs.pair.PairFlash.geometry.Goals as goal

pub returns-then-not-fits : goal.returns-then-not-fits
returns-then-not-fits g c =
    let l = g.L.Flash.card c.args.self.now.left in
    let r = g.R.Flash.card c.args.self.now.right in
    let left = c.geometry-left.ensures in
    let right = c.geometry.ensures in
    record { is = pair_no_geometry l r _ _ left.is right.is c.if-not-fits.ensures; sound = pair_sound l r left.sound right.sound }

pub returns : goal.returns
returns g c =
    let l = g.L.Flash.card c.args.self.now.left in
    let r = g.R.Flash.card c.args.self.now.right in
    let left = c.geometry-left.ensures in
    let right = c.geometry.ensures in
    record { is = pair_geometry l r _ _ left.is right.is c.if-not-fits.ensures; sound = pair_sound l r left.sound right.sound }
