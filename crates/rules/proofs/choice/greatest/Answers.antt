-- Each turn compares one more record with the best so far.
use Rattle.std.proofs.Common.{◌≡◌, ◌+◌, ◌<◌, length, get_or, sym, ap, ◌∙◌, subst, arith}
use Rattle.std.proofs.lemmas.List.{nil_from_length}
use Rattle.rules.specs.Choice.{greatest}
use Rattle.rules.proofs.ChoiceLaws.{First, read_rest, first_none, first_keeps, first_takes, first_greatest, greatest_none}
use Rattle.rules.proofs.choice.greatest.Goals as goal
use Rattle.rules.proofs.choice.greatest.Goals.{then-count-most, else-count-most}

pub returns-in_err-first : goal.returns-in_err-first
returns-in_err-first g c =
    let tally = g.T.Counted.tally in
    c.from_residual.ensures ∙ sym (ap (greatest tally) (nil_from_length c.args.records.now c.in_err-first.ensures.cases) ∙ greatest_none tally)

pub loop-place-init : goal.loop-place-init
loop-place-init g c =
    let x = c.in_ok-first.first.now in
    let parts = c.in_ok-first.ensures.cases in
    rw c.count-most.ensures
    (first_none g.T.Counted.tally c.args.records.now x (omega arith) (ap (λ ys. get_or ys 0 x) (sym parts.0)))

pub loop-place-preserved : goal.loop-place-preserved
loop-place-preserved g c =
    let tally = g.T.Counted.tally in
    let xs = c.args.records.now in
    let l = c.loop-place in
    let x = c.index-rest-place.result in
    let parts = c.in_ok-first.ensures.cases in
    let here : x ≡ get_or xs (l.place + 1) x = read_rest tally xs _ _ l.place x parts.0 c.index-rest-place.is in
    let inside : l.place + 1 < length xs = omega arith in
    elim c.if-count-most.branch [
      | then-count-most w ↦
          rw (w.best-is, w.most-is, c.count-count.ensures)
          (first_takes tally xs (l.place + 1) l.best l.most x l.invariant inside here (omega arith))
      | else-count-most w ↦
          rw (w.best-is, w.most-is)
          (first_keeps tally xs (l.place + 1) l.best l.most x l.invariant inside here (omega arith))
    ]

pub returns : goal.returns
returns g c =
    let tally = g.T.Counted.tally in
    let xs = c.args.records.now in
    let l = c.loop-place in
    let parts = c.in_ok-first.ensures.cases in
    let n : l.place + 1 ≡ length xs = omega arith in
    sym (first_greatest tally xs l.best l.most (subst (λ k. First tally xs k l.best l.most) n l.invariant))
