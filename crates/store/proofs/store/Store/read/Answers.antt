use Rattle.std.proofs.Common.{ℕ, List, length, sym, refl, ap, ◌∙◌}
use Rattle.std.proofs.lemmas.Result.{err_from_is_err_and}
use Rattle.rules.specs.Calls.{done}
use Rattle.rules.proofs.ReadyHeld.{held_reads}
use Rattle.rules.proofs.ReadyMoves.{ready_good}
use Rattle.store.specs.Places.{place_of}
use Rattle.store.specs.State.{state_of}
use Rattle.store.proofs.CheckLaws.{number_pos}
use Rattle.store.proofs.ReadLaws.{answer_as, read_refused, read_13, read_14, read_gives}
use Rattle.store.proofs.store.Store.read.Goals as goal

pub returns-in_err-maps : goal.returns-in_err-maps
returns-in_err-maps g c =
    let p = err_from_is_err_and c.from_residual.result c.from_residual.ensures.1 in
    rw (p.1, p.2) (read_refused _ c.args.block.0 c.args.page _ c.in_err-maps.ensures (number_pos _) _, refl)

pub returns-then-into-geometry : goal.returns-then-into-geometry
returns-then-into-geometry g c =
    let s = state_of c.in_ok-maps.maps.now (g.F.Flash.card c.args.self.now.flash) in
    let found = c.in_ok-maps.ensures in
    let size = ap (λ x. x.size) c.geometry.ensures.is in
    (answer_as _ s _ _ found.0.is (read_13 s _ _ _ found.1 found.2 (λ e. c.if-into-geometry.true (e ∙ sym size))), refl)

pub returns-in_default : goal.returns-in_default
returns-in_default g c =
    let k = g.F.Flash.card c.args.self.now.flash in
    let s = state_of c.in_ok-maps.maps.now k in
    let found = c.in_ok-maps.ensures in
    let size = ap (λ x. x.size) c.geometry.ensures.is in
    (answer_as _ s _ _ found.0.is (read_14 s _ _ _ found.1 found.2 (c.if-into-geometry.false ∙ size) (sym (c.in_default.ensures.held k))), refl)

pub unreachable-requires : goal.unreachable-requires
unreachable-requires g c =
    let k = g.F.Flash.card c.args.self.now.flash in
    let s = state_of c.in_ok-maps.maps.now k in
    let found = c.in_ok-maps.ensures in
    let size = ap (λ x. x.size) c.geometry.ensures.is in
    let ok = held_reads s c.args.block.0 c.args.page _ (length c.args.into.now) (ready_good s found.0.ready) found.1 (sym (c.in-Some.ensures.held k)) (c.if-into-geometry.false ∙ size) in
    cc (ok, c.in_default-read.ensures.0)

pub returns : goal.returns
returns g c =
    let k = g.F.Flash.card c.args.self.now.flash in
    let s = state_of c.in_ok-maps.maps.now k in
    let found = c.in_ok-maps.ensures in
    let size = ap (λ x. x.size) c.geometry.ensures.is in
    let place = place_of (c.in-Some.region, c.in-Some.held_in, c.in-Some.held_at) in
    answer_as _ s _ _ found.0.is
    (read_gives s c.args.block.0 c.args.page (length c.args.into.now) found.1 found.2 place (c.if-into-geometry.false ∙ size) (sym (c.in-Some.ensures.held k))
    ∙ ap (λ (x : List ℕ). done (record { way = place.0; erases = 0; compactions = 0; merges = 0; bytes = x })) (sym c.in-Ok.ensures.1))
