-- The measures of a flash without its bad blocks, and that it is sound.
use Rattle.std.proofs.Common.{◌≡◌, ◌≤◌, length, take, sum_by, ap, ◌∙◌, arith, rules, tests}
use Rattle.std.proofs.lemmas.List.{length-take-le}
use Rattle.std.proofs.lemmas.Iterator.{YieldsList-from_slice, YieldsList-from_map}
use Rattle.std.proofs.lemmas.Iterator.Consumers.{fits_by_from_yields_list}
use Rattle.layers.proofs.GoodLaws.{one_good, ones_good, few_good, unmarked_count, good_geometry, good_sound}
use Rattle.layers.proofs.good.GoodBlocksFlash.geometry.Goals as goal

pub sum-blocks-requires-clause-fits : goal.sum-blocks-requires-clause-fits
sum-blocks-requires-clause-fits g c =
    let t = c.args.self.now.bad in
    let all = c.geometry-all.result in
    let marks = take all.blocks t in
    let few : all.blocks ≤ length t = omega (arith, c.geometry-all.ensures.sound.blocks_high, ap (λ x. x.blocks) c.geometry-all.ensures.is) in
    fits_by_from_yields_list one_good marks c.map.result _
    (YieldsList-from_map _ one_good (YieldsList-from_slice marks cc) c.map.ensures.closure (λ x r q k. search (rules, tests)))
    (omega (arith, few_good marks, length-take-le all.blocks t few, c.geometry-all.ensures.sound.blocks_high, ap (λ x. x.blocks) c.geometry-all.ensures.is))

pub returns-clause-is : goal.returns-clause-is
returns-clause-is g c =
    let t = c.args.self.now.bad in
    let f = g.F.Flash.card c.args.self.now.flash in
    let all = c.geometry-all.result in
    let few : all.blocks ≤ length t = omega (arith, c.geometry-all.ensures.sound.blocks_high, ap (λ x. x.blocks) c.geometry-all.ensures.is) in
    let sum : c.sum-blocks.result ≡ sum_by one_good (take all.blocks t) = search (rules, tests) in
    good_geometry t f all _ c.geometry-all.ensures.is (sum ∙ ones_good (take all.blocks t) ∙ unmarked_count t all.blocks few)

pub returns-clause-sound : goal.returns-clause-sound
returns-clause-sound g c =
    good_sound c.args.self.now.bad (g.F.Flash.card c.args.self.now.flash) c.geometry-all.ensures.sound
