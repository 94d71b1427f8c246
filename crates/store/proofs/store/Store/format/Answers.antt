use Rattle.std.proofs.Common.{◌≡◌, true, sym, ap, ◌∙◌, arith}
use Rattle.rules.specs.State.{plan_within}
use Rattle.rules.specs.Calls.{near_worn, format_number}
use Rattle.rules.proofs.Laws.{law}
use Rattle.rules.proofs.Wear.{lasting}
use Rattle.store.proofs.FormatLaws.{format_15, format_16, format_12, format_0, formatted_is, format_leaves}
use Rattle.store.proofs.store.Store.format.Given.{Over}
use Rattle.store.proofs.store.Store.format.Goals as goal
use Rattle.store.proofs.store.Store.format.Goals.{Else-not-within_limits, Else-near_worn}

-- the plan is within its limits
within : (g : Over) (c : goal.Else-not-within_limits g) → plan_within c.args.plan (g.F.Flash.card c.args.self.now.flash).shape.pages ≡ true
within g c = ap (λ x. plan_within c.args.plan x.pages) (sym c.geometry-geometry.ensures.is) ∙ sym c.if-not-within_limits.ensures

-- every test is passed
passed : (g : Over) (c : goal.Else-near_worn g) → format_number c.args.plan (g.F.Flash.card c.args.self.now.flash) ≡ 0
passed g c =
    let k = g.F.Flash.card c.args.self.now.flash in
    let is = c.geometry-geometry.ensures.is in
    let blocks = ap (λ x. x.blocks) is in
    format_0 c.args.plan k (ap (λ x. plan_within c.args.plan x.pages) (sym is) ∙ sym c.if-not-within_limits.ensures)
    (omega (arith, c.if-geometry-plan.false, blocks)) (ap (λ n. near_worn n k) (sym blocks) ∙ sym c.if-near_worn.ensures)

pub returns-then-not-within_limits-clause-tells : goal.returns-then-not-within_limits-clause-tells
returns-then-not-within_limits-clause-tells g c =
    format_15 c.args.plan (g.F.Flash.card c.args.self.now.flash)
    (ap (λ x. plan_within c.args.plan x.pages) (sym c.geometry-geometry.ensures.is) ∙ sym c.if-not-within_limits.ensures)

pub returns-then-geometry-plan-clause-tells : goal.returns-then-geometry-plan-clause-tells
returns-then-geometry-plan-clause-tells g c =
    format_16 c.args.plan (g.F.Flash.card c.args.self.now.flash) (within g (goal.at.returns-then-geometry-plan-clause-tells g c).Else-not-within_limits)
    (omega (arith, c.if-geometry-plan.true, ap (λ x. x.blocks) c.geometry-geometry.ensures.is))

pub returns-then-near_worn-clause-tells : goal.returns-then-near_worn-clause-tells
returns-then-near_worn-clause-tells g c =
    let k = g.F.Flash.card c.args.self.now.flash in
    let blocks = ap (λ x. x.blocks) c.geometry-geometry.ensures.is in
    format_12 c.args.plan k (within g (goal.at.returns-then-near_worn-clause-tells g c).Else-not-within_limits)
    (omega (arith, c.if-geometry-plan.false, blocks)) (ap (λ n. near_worn n k) (sym blocks) ∙ sym c.if-near_worn.ensures)

pub returns-clause-tells : goal.returns-clause-tells
returns-clause-tells g c = (passed g (goal.at.returns-clause-tells g c).Else-near_worn, c.in-Ok.ensures.0)

pub returns-clause-leaves : goal.returns-clause-leaves
returns-clause-leaves g c =
    let k = g.F.Flash.card c.args.self.now.flash in
    let after = g.F.Flash.card c.clear_below.new.flash in
    let geometry = c.geometry-geometry.ensures in
    let state = formatted_is c.args.plan c.geometry-geometry.result.pages k after _ (c.formatted.ensures after) (ap (λ x. x.pages) geometry.is) c.in-Ok.ensures.1 in
    format_leaves c.args.plan k after c.formatted.result geometry.sound (passed g (goal.at.returns-clause-leaves g c).Else-near_worn) state

pub returns-clause-keeps : goal.returns-clause-keeps
returns-clause-keeps g c =
    law c.args.plan (g.F.Flash.card c.args.self.now.flash) c.geometry-geometry.ensures.sound (passed g (goal.at.returns-clause-keeps g c).Else-near_worn)

pub returns-clause-lasts : goal.returns-clause-lasts
returns-clause-lasts g c =
    lasting c.args.plan (g.F.Flash.card c.args.self.now.flash) c.geometry-geometry.ensures.sound (passed g (goal.at.returns-clause-lasts g c).Else-near_worn)
