-- Each turn makes one round more, which counts for itself.
use Rattle.std.proofs.Common.{◌<◌, ◌≤◌, ap, arith}
use Rattle.rules.specs.State.{free_of}
use Rattle.store.specs.Rounds.{tally_sum}
use Rattle.store.specs.State.{state_of}
use Rattle.store.proofs.RoundLaws.{making_none, making_few, making_next, making_same, making_count, making_more, making_end, room_few, roomy_as, MakingRoom, count_of}
use Rattle.store.proofs.maps.Maps.make_room.Given.{Over}
use Rattle.store.proofs.maps.Maps.make_room.Goals as goal
use Rattle.store.proofs.maps.Maps.make_room.Goals.{In_ok-collect}

pub loop-tally-init : goal.loop-tally-init
loop-tally-init g c = making_none c.args.slots (state_of c.args.self.now (g.F.Flash.card c.args.flash.now)) c.default-tally.result (omega arith) (omega arith) (omega arith)

pub collect-requires : goal.collect-requires
collect-requires g c =
    let s = state_of c.args.self.now (g.F.Flash.card c.args.flash.now) in
    let k = g.F.Flash.card c.loop-tally.flash in
    let is = state_of c.loop-tally.self k in
    let inv = c.loop-tally.invariant in
    let short : free_of is < c.args.slots = omega (arith, c.loop-tally-test.true, c.free.ensures.is k) in
    record {
      roundable = (making_next c.args.slots s _ c.requires is _ inv short).0;
      roomy = roomy_as s is _ _ (making_same c.args.slots s _ c.requires is _ inv) c.loop-tally.auto.area c.requires.area_long;
    }

-- the tally with the round that was made
one_more :
    (g : Over) (c : goal.In_ok-collect g) →
    MakingRoom c.args.slots (state_of c.args.self.now (g.F.Flash.card c.args.flash.now))
    (state_of c.collect.new.self (g.F.Flash.card c.collect.new.flash)) (tally_sum c.loop-tally.tally c.in_ok-collect.field-0)
one_more g c =
    let s = state_of c.args.self.now (g.F.Flash.card c.args.flash.now) in
    let k = g.F.Flash.card c.loop-tally.flash in
    let is = state_of c.loop-tally.self k in
    let short : free_of is < c.args.slots = omega (arith, c.loop-tally-test.true, c.free.ensures.is k) in
    making_more c.args.slots s _ c.requires is _ _ _ c.loop-tally.invariant short c.in_ok-collect.ensures

pub add_assign-requires : goal.add_assign-requires
add_assign-requires g c =
    let s = state_of c.args.self.now (g.F.Flash.card c.args.flash.now) in
    let few = making_few c.args.slots s _ _ (one_more g c) (room_few s _ _ c.requires) in
    (omega (arith, few.0), omega (arith, few.1), omega (arith, few.2))

pub loop-tally-smaller : goal.loop-tally-smaller
loop-tally-smaller g c =
    let s = state_of c.args.self.now (g.F.Flash.card c.args.flash.now) in
    let k = g.F.Flash.card c.loop-tally.flash in
    let is = state_of c.loop-tally.self k in
    let inv = c.loop-tally.invariant in
    let short : free_of is < c.args.slots = omega (arith, c.loop-tally-test.true, c.free.ensures.is k) in
    let more = making_count c.args.slots s _ c.requires is _ _ _ inv short c.in_ok-collect.ensures in
    let left = (making_next c.args.slots s _ c.requires is _ inv short).1 in
    let now = ap count_of c.add_assign.ensures.after in
    omega arith

pub loop-tally-preserved : goal.loop-tally-preserved
loop-tally-preserved g c = rw c.add_assign.ensures.after (one_more g (goal.at.loop-tally-preserved g c).In_ok-collect)

pub returns : goal.returns
returns g c =
    let s = state_of c.args.self.now (g.F.Flash.card c.args.flash.now) in
    let k = g.F.Flash.card c.loop-tally.flash in
    let is = state_of c.loop-tally.self k in
    let enough : c.args.slots ≤ free_of is = omega (arith, c.loop-tally-test.false, c.free.ensures.is k) in
    making_end c.args.slots s is _ c.loop-tally.invariant enough
