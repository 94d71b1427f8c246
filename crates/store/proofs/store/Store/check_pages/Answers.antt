use Rattle.std.proofs.Common.{sym}
use Rattle.std.proofs.lemmas.Result.{err_from_is_err_and}
use Rattle.store.specs.State.{state_of}
use Rattle.store.proofs.CheckLaws.{number_pos, number_as, discard_refused, discard_8, discard_9, discard_0}
use Rattle.store.proofs.store.Store.check_pages.Goals as goal

pub returns-in_err-maps : goal.returns-in_err-maps
returns-in_err-maps g c =
    let p = err_from_is_err_and c.from_residual.result c.from_residual.ensures.1 in
    rw (p.1, p.2) (discard_refused _ c.args.block.0 c.args.pages.0 _ c.in_err-maps.ensures (number_pos _))

pub returns-then-not-within : goal.returns-then-not-within
returns-then-not-within g c =
    let s = state_of c.in_ok-maps.maps.now (g.F.Flash.card c.args.self.now.flash) in
    let found = c.in_ok-maps.ensures in
    number_as _ s _ _ found.0.is (discard_8 s _ _ found.1 (sym c.if-not-within.ensures))

pub returns-then-is_empty : goal.returns-then-is_empty
returns-then-is_empty g c =
    let s = state_of c.in_ok-maps.maps.now (g.F.Flash.card c.args.self.now.flash) in
    let found = c.in_ok-maps.ensures in
    number_as _ s _ _ found.0.is (discard_9 s _ _ found.1 (sym c.if-not-within.ensures) (sym c.if-is_empty.ensures))

pub returns : goal.returns
returns g c =
    let s = state_of c.in_ok-maps.maps.now (g.F.Flash.card c.args.self.now.flash) in
    let found = c.in_ok-maps.ensures in
    (s, record { in_force = found.0; passed = discard_0 s _ _ found.1 (sym c.if-not-within.ensures) (sym c.if-is_empty.ensures) })
