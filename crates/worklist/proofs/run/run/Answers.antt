use Rattle.std.proofs.Common.{◌≡◌, ◌+◌, ◌<◌, ◌≤◌, length, sym, refl, ap, ◌∙◌, subst, arith, rules}
use Rattle.flash.specs.declared.geometry.Geometry.{Geometry}
use Rattle.store.specs.Calls.{state_in}
use Rattle.worklist.specs.declared.ended.Ended.{Ended}
use Rattle.worklist.specs.Records.{Found, found_by, taken, stopped, next_at}
use Rattle.worklist.specs.Runs.{room_for}
use Rattle.worklist.proofs.ListLaw.{follows}
use Rattle.worklist.proofs.RunLaws.{complete_stop, complete_full, nothing, Underway, underway_none, underway_on, taken_at, left_long}
use Rattle.worklist.proofs.run.run.Goals as goal

pub returns-then-list-gt-LONGEST : goal.returns-then-list-gt-LONGEST
returns-then-list-gt-LONGEST g c =
    let me = c.args.store.now in
    let card = g.F.Flash.card me.flash in
    record {
      tells = search rules;
      leaves = search rules;
      answered = search rules;
      clears = search rules;
      follows = follows c.args.list.now card.shape.size (length c.args.answers.now) (state_in me.maps card) c.args.area.now;
      bounded = search rules;
    }

pub loop-taken-init : goal.loop-taken-init
loop-taken-init g c =
    let me = c.args.store.now in
    let xs = c.args.list.now in
    let ys = c.args.answers.now in
    let area = c.args.area.now in
    let s = state_in me.maps (g.F.Flash.card me.flash) in
    let size = c.geometry-size.result.size in
    let reader = c.new-reader.ensures in
    let t : c.default-total.result ≡ nothing = search rules in
    record {
      same_list = reader.list;
      same_size = reader.size;
      underway =
          subst (λ n. Underway xs size s ys area n c.default-total.result s ys area) (sym reader.start)
          (subst (λ (k : Ended). Underway xs size s ys area 0 k s ys area) (sym t) (underway_none xs size s ys area));
    }

pub returns-in_default : goal.returns-in_default
returns-in_default g c =
    let me = c.args.store.now in
    let xs = c.args.list.now in
    let s₀ = state_in me.maps (g.F.Flash.card me.flash) in
    let now' = c.loop-taken.store in
    let s = state_in now'.maps (g.F.Flash.card now'.flash) in
    let v = c.loop-taken.invariant in
    let t = c.loop-taken.total in
    let size = c.geometry-size.result.size in
    let place = c.loop-taken.reader.place in
    let e : stopped c.fault.result ≡ next_at xs place size = ap stopped c.fault.ensures ∙ rw (v.same_list, v.same_size) at c.in_default.ensures.is in
    let is : size ≡ (g.F.Flash.card me.flash).shape.size = ap (λ (x : Geometry). x.size) c.geometry-size.ensures.is ∙ ap (λ (x : _). (g.F.Flash.card x).shape.size) c.flash.ensures in
    complete_stop xs size s₀ c.args.answers.now c.args.area.now place t s c.loop-taken.answers c.loop-taken.area v.underway c.fault.result _ _ is c.in_default.ensures.on (omega arith) e

pub returns-then-left-room_for : goal.returns-then-left-room_for
returns-then-left-room_for g c =
    let me = c.args.store.now in
    let xs = c.args.list.now in
    let s₀ = state_in me.maps (g.F.Flash.card me.flash) in
    let now' = c.loop-taken.store in
    let s = state_in now'.maps (g.F.Flash.card now'.flash) in
    let v = c.loop-taken.invariant in
    let t = c.loop-taken.total in
    let size = c.geometry-size.result.size in
    let place = c.loop-taken.reader.place in
    let f : Found = found_by c.in-Some.taken in
    let e : taken f ≡ next_at xs place size = rw (v.same_list, v.same_size) at c.in-Some.ensures.is in
    let is : size ≡ (g.F.Flash.card me.flash).shape.size = ap (λ (x : Geometry). x.size) c.geometry-size.ensures.is ∙ ap (λ (x : _). (g.F.Flash.card x).shape.size) c.flash.ensures in
    let full : length c.args.answers.now < t.written + room_for size f.item = omega (arith, left_long t.written c.loop-taken.answers, v.underway.fits) in
    complete_full xs size s₀ c.args.answers.now c.args.area.now place t s c.loop-taken.answers c.loop-taken.area v.underway f _ _ is refl (omega arith) e full

pub loop-taken-smaller : goal.loop-taken-smaller
loop-taken-smaller g c =
    let v = c.loop-taken.invariant in
    let size = c.geometry-size.result.size in
    let f : Found = found_by c.in-Some.taken in
    let e : taken f ≡ next_at c.args.list.now c.loop-taken.reader.place size = rw (v.same_list, v.same_size) at c.in-Some.ensures.is in
    let b = taken_at c.args.list.now c.loop-taken.reader.place size f e in
    omega (arith, b.long, b.inside, c.in-Some.ensures.on)

pub loop-taken-preserved : goal.loop-taken-preserved
loop-taken-preserved g c =
    let me = c.args.store.now in
    let xs = c.args.list.now in
    let s₀ = state_in me.maps (g.F.Flash.card me.flash) in
    let now' = c.loop-taken.store in
    let s = state_in now'.maps (g.F.Flash.card now'.flash) in
    let v = c.loop-taken.invariant in
    let t = c.loop-taken.total in
    let size = c.geometry-size.result.size in
    let place = c.loop-taken.reader.place in
    let f : Found = found_by c.in-Some.taken in
    let e : taken f ≡ next_at xs place size = rw (v.same_list, v.same_size) at c.in-Some.ensures.is in
    let w = c.carry.ensures in
    let room : t.written + room_for size f.item ≤ length c.args.answers.now = omega (arith, left_long t.written c.loop-taken.answers, v.underway.fits) in
    record {
      same_list = c.in-Some.ensures.same_list ∙ v.same_list;
      same_size = c.in-Some.ensures.same_size ∙ v.same_size;
      underway =
          underway_on xs size s₀ c.args.answers.now c.args.area.now place t s c.loop-taken.answers c.loop-taken.area v.underway f c.carry.result c.add_assign.new.self _ _ _ _ c.in-Some.ensures.on e
          room w.told w.within c.add_assign.ensures.after;
    }
