use Rattle.std.proofs.Common.{ℕ, ◌+◌, ltb, refl, ◌∙◌, arith, rules, tests}
use Rattle.std.proofs.lemmas.Iterator.{YieldsList-from_range}
use Rattle.std.proofs.lemmas.Iterator.Search.{any_from_yields_List}
use Rattle.flash.specs.Meaning.{erase_count_at}
use Rattle.store.proofs.WearLaws.{near_any}
use Rattle.store.proofs.wear.near_worn.Goals as goal

pub returns : goal.returns
returns g c =
    let k = g.F.Flash.card c.args.flash.now in
    let near = λ (n : ℕ). ltb k.shape.endurance (erase_count_at k n + 128) in
    any_from_yields_List near _ _ c.any.result c.any.ensures.ran (YieldsList-from_range 0 c.args.blocks c.args.blocks refl (omega arith)) (λ x b q r. search (rules, tests))
    ∙ near_any k c.args.blocks
