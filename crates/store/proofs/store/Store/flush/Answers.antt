use Rattle.std.proofs.Common.{◌≡◌, ◌*◌, length, sym, refl, ap, ◌∙◌, subst, arith}
use Rattle.std.proofs.lemmas.Result.{err_from_is_err_and}
use Rattle.rules.specs.Calls.{flush, Few}
use Rattle.rules.specs.Sets.{pages_in}
use Rattle.rules.proofs.Accepted.{CanFlush, can_flush}
use Rattle.rules.proofs.ReadyCalls.{ready_meant, few_flushed}
use Rattle.store.specs.Calls.{state_in, Accepted}
use Rattle.store.specs.State.{state_of}
use Rattle.store.proofs.AgreeLaws.{accepted_here, state_kept}
use Rattle.store.proofs.AreaLaws.{lent_length, wiped}
use Rattle.store.proofs.CheckLaws.{number_pos, refused_answer, accepted_answer}
use Rattle.store.proofs.PlaceLaws.{place_by}
use Rattle.store.proofs.store.Store.flush.Given.{Over}
use Rattle.store.proofs.store.Store.flush.Goals as goal
use Rattle.store.proofs.store.Store.flush.Goals.{In-Some, After-geometry}

-- the call is accepted in the state that the maps tell
here :
    (g : Over) (c : goal.In-Some g) →
    Accepted (state_in c.args.self.now.maps (g.F.Flash.card c.args.self.now.flash))
    (flush c.args.block.0 c.args.pages.0 c.args.bytes.now (length c.args.area.now))
    (state_of c.in-Some.maps (g.F.Flash.card c.args.self.now.flash))
here g c = accepted_here c.in-Some.maps _ _ _ c.in-Some.is c.in_ok-check_flush.ensures

-- so the group can be flushed
can :
    (g : Over) (c : goal.In-Some g) →
    CanFlush (state_of c.in-Some.maps (g.F.Flash.card c.args.self.now.flash)) c.args.block.0 c.args.pages.0 (length c.args.bytes.now) (length c.args.area.now)
can g c = can_flush _ _ _ _ _ (here g c).passed

-- as many bytes are lent as a block's pages have
lent :
    (g : Over) (c : goal.After-geometry g) → let s = state_of c.in-Some.maps (g.F.Flash.card c.args.self.now.flash) in
    c.in-Some.maps.pages * c.geometry.result.size ≡ s.pages * s.card.shape.size
lent g c = ap (λ x. c.in-Some.maps.pages * x.size) c.geometry.ensures.is

pub returns-in_err-check_flush : goal.returns-in_err-check_flush
returns-in_err-check_flush g c =
    let p = err_from_is_err_and c.from_residual.result c.from_residual.ensures.1 in
    let r = refused_answer _ (flush c.args.block.0 c.args.pages.0 c.args.bytes.now _) _ c.in_err-check_flush.ensures (number_pos _) in
    rw (p.1, p.2) (record { tells = r.0; leaves = sym r.1; clears = refl; few = tt; refused = refl })

pub slice_bounds-lent-end : goal.slice_bounds-lent-end
slice_bounds-lent-end g c =
    let at = goal.at.slice_bounds-lent-end g c in
    omega (arith, (can g at.In-Some).area_long, lent g at.After-geometry)

pub slice_bounds-lent-end-2 : goal.slice_bounds-lent-end-2
slice_bounds-lent-end-2 g c =
    let at = goal.at.slice_bounds-lent-end-2 g c in
    let s = state_of c.in-Some.maps (g.F.Flash.card c.args.self.now.flash) in
    lent_length s _ c.args.area.now (lent g at.After-geometry) (can g at.In-Some).area_long

pub place_group-requires : goal.place_group-requires
place_group-requires g c =
    let at = goal.at.place_group-requires g c in
    let s = state_of c.in-Some.maps (g.F.Flash.card c.args.self.now.flash) in
    let group = can g at.In-Some in
    place_by s _ _ _ (length c.args.area.now) _ (here g at.In-Some).in_force.ready group
    (omega (arith, lent g at.After-geometry, lent_length s _ c.args.area.now (lent g at.After-geometry) group.area_long))

pub returns : goal.returns
returns g c =
    let at = goal.at.returns g c in
    let k = g.F.Flash.card c.args.self.now.flash in
    let s = state_of c.in-Some.maps k in
    let call = flush c.args.block.0 c.args.pages.0 c.args.bytes.now (length c.args.area.now) in
    let accepted = here g at.In-Some in
    let ready = accepted.in_force.ready in
    let group = can g at.In-Some in
    let placed = c.in-Ok.ensures in
    let r = accepted_answer _ call s accepted in
    record {
      tells = r.0 ∙ sym placed.tells;
      leaves = state_kept c.place_group.new.self _ _ placed.leaves (ready_meant s call ready accepted.passed) ∙ sym r.1;
      clears =
          wiped s _ c.args.area.now (lent g at.After-geometry) (can g at.In-Some).area_long c.place_group.new.area c.fill.new.self ready c.place_group.auto.area
          (c.fill.ensures.after (λ y e. e));
      few =
          subst (Few (pages_in k.shape.pages c.args.pages.0)) (sym placed.tells)
          (rw (← ready.agrees.pages_are) (few_flushed s c.args.block.0 c.args.pages.0 c.args.bytes.now _ ready group));
      refused = tt;
    }
