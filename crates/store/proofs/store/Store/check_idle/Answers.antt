use Rattle.std.proofs.Common.{◌*◌, sym, ap, ◌∙◌, arith}
use Rattle.rules.specs.Calls.{near_worn}
use Rattle.store.specs.State.{state_of}
use Rattle.store.proofs.CheckLaws.{number_as, idle_11, idle_12, idle_0}
use Rattle.store.proofs.store.Store.check_idle.Goals as goal

pub returns-then-area-maps : goal.returns-then-area-maps
returns-then-area-maps g c =
    let s = state_of c.in_ok-maps.maps.now (g.F.Flash.card c.args.self.now.flash) in
    let size = ap (λ x. s.pages * x.size) c.geometry-geometry.ensures.is in
    number_as _ s _ _ c.in_ok-maps.ensures.is (idle_11 s c.args.area (omega (arith, size, c.if-area-maps.true)))

pub returns-then-near_worn : goal.returns-then-near_worn
returns-then-near_worn g c =
    let k = g.F.Flash.card c.args.self.now.flash in
    let s = state_of c.in_ok-maps.maps.now k in
    let size = ap (λ x. s.pages * x.size) c.geometry-geometry.ensures.is in
    let worn = ap (λ x. near_worn x.blocks k) c.geometry-geometry.ensures.is in
    number_as _ s _ _ c.in_ok-maps.ensures.is (idle_12 s c.args.area (omega (arith, size, c.if-area-maps.false)) (sym worn ∙ sym c.if-near_worn.ensures))

pub returns : goal.returns
returns g c =
    let k = g.F.Flash.card c.args.self.now.flash in
    let s = state_of c.in_ok-maps.maps.now k in
    let size = ap (λ x. s.pages * x.size) c.geometry-geometry.ensures.is in
    let worn = ap (λ x. near_worn x.blocks k) c.geometry-geometry.ensures.is in
    let passed = idle_0 s c.args.area (omega (arith, size, c.if-area-maps.false)) (sym worn ∙ sym c.if-near_worn.ensures) in
    (s, record { in_force = c.in_ok-maps.ensures; passed = passed })
