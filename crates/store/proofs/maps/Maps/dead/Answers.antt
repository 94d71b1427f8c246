-- The sum fits.
use Rattle.std.proofs.Common.{ℕ, take, rules, tests}
use Rattle.std.proofs.lemmas.Iterator.{YieldsList-from_slice, YieldsList-from_map}
use Rattle.std.proofs.lemmas.Iterator.Consumers.{fits_by_from_yields_list}
use Rattle.rules.specs.State.{deads}
use Rattle.store.specs.declared.slot.RegionBlock.{RegionBlock}
use Rattle.store.specs.View.{slots_of}
use Rattle.store.proofs.CountLaws.{deads_few, rows_few}
use Rattle.store.proofs.maps.Maps.dead.Goals as goal

pub sum-requires-clause-fits : goal.sum-requires-clause-fits
sum-requires-clause-fits c =
    let m = c.args.self.now in
    let f : RegionBlock → ℕ = λ k. deads (slots_of k) in
    let rows = take m.plan.region m.table in
    fits_by_from_yields_list f rows c.map.result _
    (YieldsList-from_map _ f (YieldsList-from_slice rows (cc)) c.map.ensures.closure (λ x r q k. search (rules, tests)))
    (rows_few f m deads_few)
