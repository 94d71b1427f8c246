-- The search ends at the good block that has so many good ones before it.
use Rattle.std.proofs.Common.{◌≡◌, ℕ, ◌<◌, ◌≤◌, Bool, false, List, length, get_or, take, sym, ap, ◌∙◌, arith}
use Rattle.std.specs.Option.{ok_or}
use Rattle.std.proofs.lemmas.List.{get_or-take, get_or_default, length-take-le}
use Rattle.flash.specs.declared.refusal.Refusal.TheVariants.{NoSuchBlock}
use Rattle.layers.specs.Good.{good_block}
use Rattle.layers.proofs.GoodLaws.{count_bad, count_good, good_found}
use Rattle.layers.proofs.good.GoodBlocks.below.Goals as goal

-- a mark that was looked at, as the table has it
mark_is :
    (ts : List Bool) (n j : ℕ) (d b : Bool) → n ≤ length ts → j < length (take n ts) → get_or (take n ts) j d ≡ b → get_or ts j false ≡ b
mark_is ts n j d b few h e =
    sym (get_or-take n ts j false (omega (arith, length-take-le n ts few))) ∙ get_or_default (take n ts) j false d h ∙ e

pub loop-number-preserved-then-bad : goal.loop-number-preserved-then-bad
loop-number-preserved-then-bad g c =
    let t = c.args.self.now.bad in
    let n = c.geometry.result.blocks in
    let j = c.loop-number.number in
    let few : n ≤ length t = omega (arith, c.geometry.ensures.sound.blocks_high, ap (λ x. x.blocks) c.geometry.ensures.is) in
    omega (arith, c.loop-number.invariant, count_bad t j (mark_is t n j _ _ few c.loop-number-test.true c.if-bad.true))

pub loop-number-preserved : goal.loop-number-preserved
loop-number-preserved g c =
    let t = c.args.self.now.bad in
    let n = c.geometry.result.blocks in
    let j = c.loop-number.number in
    let few : n ≤ length t = omega (arith, c.geometry.ensures.sound.blocks_high, ap (λ x. x.blocks) c.geometry.ensures.is) in
    omega (arith, c.loop-number.invariant, c.if-ahead-eq0.false, count_good t j (mark_is t n j _ _ few c.loop-number-test.true c.if-bad.false))

pub returns-then-ahead-eq0 : goal.returns-then-ahead-eq0
returns-then-ahead-eq0 g c =
    let t = c.args.self.now.bad in
    let n = c.geometry.result.blocks in
    let j = c.loop-number.number in
    let few : n ≤ length t = omega (arith, c.geometry.ensures.sound.blocks_high, ap (λ x. x.blocks) c.geometry.ensures.is) in
    let good = mark_is t n j _ _ few c.loop-number-test.true c.if-bad.false in
    let h : j < n = omega (arith, length-take-le n t few, c.loop-number-test.true) in
    ap (λ o. ok_or o NoSuchBlock) (good_found t n c.args.block.0 j h good (omega (arith, c.loop-number.invariant, c.if-ahead-eq0.true)))
    ∙ ap (λ x. ok_or (good_block t x.blocks c.args.block.0) NoSuchBlock) c.geometry.ensures.is
