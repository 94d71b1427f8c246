-- One block after the other is checked, noted and summed up.
use Rattle.std.proofs.Common.{◌≡◌, ◌<◌, ◌≤◌, ℕ, List, ◌++◌, length, take, drop, refl, ap, ◌∙◌, arith, rules}
use Rattle.std.proofs.lemmas.List.{length-take-le, take-append-drop}
use Rattle.flash.specs.Meaning.{block_count}
use Rattle.bringup.specs.declared.report.BlockOutcome.{BlockOutcome}
use Rattle.bringup.specs.Checked.{checked_below, noted_below, summary_below}
use Rattle.bringup.proofs.FlashLaws.{block_ready, small_below, checked_more, noted_more, added_more, noted_front}
use Rattle.bringup.proofs.check.check_flash.Goals as goal

pub loop-number-init : goal.loop-number-init
unfolding checked_below noted_below summary_below
loop-number-init g c = record { leaves = refl; notes = refl; tells = search rules }

pub check_block-requires-clause-inside : goal.check_block-requires-clause-inside
check_block-requires-clause-inside g c =
    let k = g.F.Flash.card c.args.flash.now in
    let h : c.loop-number.number < block_count k = omega (arith, ap (λ x. x.blocks) c.geometry-geometry.ensures.is) in
    block_ready k (g.F.Flash.card c.loop-number.flash) c.loop-number.number c.geometry-geometry.ensures.sound h c.loop-number.invariant.leaves

pub with-summary-requires-clause-room : goal.with-summary-requires-clause-room
with-summary-requires-clause-room g c =
    let k = g.F.Flash.card c.args.flash.now in
    let s = c.geometry-geometry.ensures.sound in
    small_below k c.loop-number.number _ c.loop-number.invariant.tells s.pages_high (omega (arith, ap (λ x. x.blocks) c.geometry-geometry.ensures.is, s.blocks_high))

pub loop-number-preserved : goal.loop-number-preserved
loop-number-preserved g c =
    let k = g.F.Flash.card c.args.flash.now in
    let d = g.F.Flash.card c.loop-number.flash in
    let n = c.loop-number.number in
    let inv = c.loop-number.invariant in
    let o = c.outcome-outcome.result in
    let w = c.outcome-outcome.ensures in
    record {
      leaves = checked_more k d (g.F.Flash.card c.check_block.new.flash) n o inv.leaves w c.check_block.ensures.leaves;
      notes = noted_more k d d n o inv.leaves w _ _ inv.notes;
      tells = added_more k d d n o inv.leaves w _ _ _ _ inv.tells (ap (λ x. x.pages) c.geometry-geometry.ensures.is) (cc) c.with-summary.ensures;
    }

pub returns-clause-notes : goal.returns-clause-notes
returns-clause-notes g c =
    let k = g.F.Flash.card c.args.flash.now in
    let n = c.geometry-geometry.result.blocks in
    let xs = c.args.outcomes.now in
    let few : n ≤ length xs = omega (arith, c.geometry-geometry.ensures.sound.blocks_high, ap (λ x. x.blocks) c.geometry-geometry.ensures.is) in
    let front : length (take n xs) ≡ n = length-take-le n xs few in
    let m = c.loop-number.number in
    let end : m ≡ n = omega arith in
    ap (λ (t : List BlockOutcome). t ++ drop n xs) c.loop-number.invariant.notes
    ∙ noted_front m k (take n xs) (drop n xs) (omega arith)
    ∙ ap (noted_below m k) (take-append-drop n xs)
    ∙ ap (λ (x : ℕ). noted_below x k xs) (end ∙ ap (λ x. x.blocks) c.geometry-geometry.ensures.is)
