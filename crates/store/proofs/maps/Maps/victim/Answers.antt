-- The greatest count among the blocks of the region.
use Rattle.std.proofs.Common.{take, ap, ◌∙◌}
use Rattle.rules.specs.Choice.{greatest}
use Rattle.rules.specs.State.{deads}
use Rattle.rules.proofs.ChoiceLaws.{greatest_map}
use Rattle.store.specs.declared.slot.RegionBlock.{RegionBlock}
use Rattle.store.specs.View.{slots_of}
use Rattle.store.proofs.maps.Maps.victim.Goals as goal

pub returns : goal.returns
returns c =
    let m = c.args.self.now in
    c.greatest.ensures ∙ ap (greatest (λ (k : RegionBlock). deads (slots_of k))) c.rows.ensures
    ∙ greatest_map deads slots_of (take m.plan.region m.table)
