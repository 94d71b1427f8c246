-- The loop over the bad blocks leaves the table in which they and no others are marked.
use Rattle.std.proofs.Common.{◌≡◌, ◌+◌, Bool, true, List, length, get_or, take, set, sym, refl, ap, ◌∙◌, arith}
use Rattle.std.proofs.lemmas.List.{length-set, set_past, take_all}
use Rattle.layers.specs.Good.{bad_table, good_card}
use Rattle.layers.proofs.GoodLaws.{table_none, table_more}
use Rattle.layers.proofs.good.GoodBlocks.new.Goals as goal
use Rattle.layers.proofs.good.GoodBlocks.new.Goals.{then-number-lt256, else-number-lt256}

pub loop-block-init : goal.loop-block-init
loop-block-init g c = (table_none, refl)

pub loop-block-preserved : goal.loop-block-preserved
loop-block-preserved g c =
    let t = c.loop-block.marks in
    let i = c.loop-block.block-index in
    let blocks = c.args.bad.now in
    let number = (get_or blocks i (record { 0 = 0 })).0 in
    let (before, wide) = c.loop-block.invariant in
    let more = ap (λ (y : List Bool). set y number true) before ∙ sym (table_more blocks i c.loop-block-test.true) in
    let next : (y : List Bool) → y ≡ set t number true → (y ≡ bad_table (take (i + 1) blocks)) × (length y ≡ 256) = λ y e. (e ∙ more, ap length e ∙ length-set t number true ∙ wide) in
    elim c.if-number-lt256.branch [
      | then-number-lt256 w ↦ next c.if-number-lt256.marks w.marks-is
      | else-number-lt256 w ↦ next c.if-number-lt256.marks (w.marks-is ∙ sym (set_past t number true (omega (arith, wide, w.if-number-lt256.false))))
    ]

pub returns : goal.returns
returns g c =
    let all = take_all c.loop-block.block-index c.args.bad.now c.loop-block-test.false in
    let table : c.loop-block.marks ≡ bad_table c.args.bad.now = c.loop-block.invariant.0 ∙ ap bad_table all in
    record { over = refl; without = table; means = ap (λ (y : List Bool). good_card y (g.F.Flash.card c.args.flash)) table }
