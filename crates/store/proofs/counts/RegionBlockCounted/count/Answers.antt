-- The sum fits.
use Rattle.std.proofs.Common.{◌≡◌, ℕ, map, sum_by, take, arith, rules, tests}
use Rattle.std.proofs.lemmas.Iterator.{YieldsList-from_slice, YieldsList-from_map}
use Rattle.std.proofs.lemmas.Iterator.Consumers.{fits_by_from_yields_list}
use Rattle.rules.specs.State.{one_dead}
use Rattle.rules.proofs.Sums.{sum_map}
use Rattle.store.specs.declared.slot.Slot.{Slot}
use Rattle.store.specs.View.{slot_of}
use Rattle.store.proofs.CountLaws.{deads_few}
use Rattle.store.proofs.counts.RegionBlockCounted.count.Goals as goal

pub sum-requires-clause-fits : goal.sum-requires-clause-fits
sum-requires-clause-fits c =
    let k = c.args.self.now in
    let f : Slot → ℕ = λ x. one_dead (slot_of x) in
    let slots = take k.used k.slots in
    let same : sum_by one_dead (map slot_of slots) ≡ sum_by f slots = sum_map _ _ slots in
    fits_by_from_yields_list f slots c.map.result _
    (YieldsList-from_map _ f (YieldsList-from_slice slots (cc)) c.map.ensures.closure (λ x r q k. search (rules, tests)))
    (omega (arith, same, deads_few k))
