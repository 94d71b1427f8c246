use Rattle.std.proofs.Common.{ℕ, replicate, refl}
use Rattle.std.proofs.lemmas.List.{length-replicate}
use Rattle.trialcard.specs.Card.{RanOn}
use Rattle.trialcard.proofs.CardLaws.{written_there, text_made, text_long}
use Rattle.trialcard.proofs.text.text_for.Goals as goal

pub returns-then-list-gt-LONGEST : goal.returns-then-list-gt-LONGEST
returns-then-list-gt-LONGEST c =
    text_long c.args.list.now _ _ c.if-list-gt-LONGEST.true c.new-text.ensures.bytes c.in_ok-push_end.ensures

pub slice_bounds-push_lines-end : goal.slice_bounds-push_lines-end
slice_bounds-push_lines-end c =
    let ran : RanOn c.args.list.now (replicate 16384 0) c.run_on-ended.new.answers c.run_on-ended.result = c.run_on-ended.ensures c.new.ensures.shows in
    written_there c.args.list.now _ c.run_on-ended.new.answers c.run_on-ended.result ran c.run_on-ended.auto.answers

pub returns : goal.returns
returns c =
    let ran : RanOn c.args.list.now (replicate 16384 0) c.run_on-ended.new.answers c.run_on-ended.result = c.run_on-ended.ensures c.new.ensures.shows in
    text_made c.args.list.now (replicate 16384 0) c.run_on-ended.new.answers c.run_on-ended.result ran _ _ _ _
    c.if-list-gt-LONGEST.false (length-replicate {A = ℕ} 16384 0) c.new-text.ensures.bytes refl c.in_ok-push_lines.ensures c.in_ok-push_end-2.ensures
