use Rattle.std.proofs.Common.{◌≡◌, ◌*◌, length, sym, refl, ap, ◌∙◌, arith}
use Rattle.std.proofs.lemmas.Result.{err_from_is_err_and}
use Rattle.rules.specs.Calls.{idle}
use Rattle.rules.proofs.Accepted.{CanIdle, can_idle}
use Rattle.rules.proofs.ReadyCalls.{ready_meant}
use Rattle.store.specs.Calls.{state_in, Accepted}
use Rattle.store.specs.State.{state_of}
use Rattle.store.proofs.AgreeLaws.{accepted_here, state_kept}
use Rattle.store.proofs.AreaLaws.{lent_length, wiped}
use Rattle.store.proofs.CheckLaws.{number_pos, refused_answer, accepted_answer}
use Rattle.store.proofs.store.Store.idle_round.Given.{Over}
use Rattle.store.proofs.store.Store.idle_round.Goals as goal
use Rattle.store.proofs.store.Store.idle_round.Goals.{In-Some, After-geometry}

-- the call is accepted in the state that the maps tell
here :
    (g : Over) (c : goal.In-Some g) →
    Accepted (state_in c.args.self.now.maps (g.F.Flash.card c.args.self.now.flash)) (idle (length c.args.area.now))
    (state_of c.in-Some.maps (g.F.Flash.card c.args.self.now.flash))
here g c = accepted_here c.in-Some.maps _ _ _ c.in-Some.is c.in_ok-check_idle.ensures

-- so an idle round can be made
can : (g : Over) (c : goal.In-Some g) → CanIdle (state_of c.in-Some.maps (g.F.Flash.card c.args.self.now.flash)) (length c.args.area.now)
can g c = can_idle _ _ (here g c).passed

-- as many bytes are lent as a block's pages have
lent :
    (g : Over) (c : goal.After-geometry g) → let s = state_of c.in-Some.maps (g.F.Flash.card c.args.self.now.flash) in
    c.in-Some.maps.pages * c.geometry.result.size ≡ s.pages * s.card.shape.size
lent g c = ap (λ x. c.in-Some.maps.pages * x.size) c.geometry.ensures.is

pub returns-in_err-check_idle : goal.returns-in_err-check_idle
returns-in_err-check_idle g c =
    let p = err_from_is_err_and c.from_residual.result c.from_residual.ensures.1 in
    let r = refused_answer _ (idle (length c.args.area.now)) _ c.in_err-check_idle.ensures (number_pos _) in
    rw (p.1, p.2) (record { tells = r.0; leaves = sym r.1; clears = refl; refused = refl })

pub slice_bounds-lent-end : goal.slice_bounds-lent-end
slice_bounds-lent-end g c =
    let at = goal.at.slice_bounds-lent-end g c in
    omega (arith, (can g at.In-Some).area_long, lent g at.After-geometry)

pub slice_bounds-lent-end-2 : goal.slice_bounds-lent-end-2
slice_bounds-lent-end-2 g c =
    let at = goal.at.slice_bounds-lent-end-2 g c in
    let s = state_of c.in-Some.maps (g.F.Flash.card c.args.self.now.flash) in
    lent_length s _ c.args.area.now (lent g at.After-geometry) (can g at.In-Some).area_long

pub rest-requires : goal.rest-requires
rest-requires g c =
    let at = goal.at.rest-requires g c in
    let m = c.in-Some.maps in
    let s = state_of m (g.F.Flash.card c.args.self.now.flash) in
    let round = can g at.In-Some in
    record {
      ready = (here g at.In-Some).in_force.ready;
      lasts = round.lasts;
      low = omega (arith, m.low_idle);
      area_long = omega (arith, lent g at.After-geometry, lent_length s _ c.args.area.now (lent g at.After-geometry) round.area_long);
    }

pub returns : goal.returns
returns g c =
    let at = goal.at.returns g c in
    let s = state_of c.in-Some.maps (g.F.Flash.card c.args.self.now.flash) in
    let call = idle (length c.args.area.now) in
    let accepted = here g at.In-Some in
    let ready = accepted.in_force.ready in
    let rested = c.in-Ok.ensures in
    let r = accepted_answer _ call s accepted in
    record {
      tells = r.0 ∙ sym rested.tells;
      leaves = state_kept c.rest.new.self _ _ rested.leaves (ready_meant s call ready accepted.passed) ∙ sym r.1;
      clears =
          wiped s _ c.args.area.now (lent g at.After-geometry) (can g at.In-Some).area_long c.rest.new.area c.fill.new.self ready c.rest.auto.area
          (c.fill.ensures.after (λ y e. e));
      refused = tt;
    }
