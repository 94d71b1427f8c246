use Rattle.std.proofs.Common.{◌^◌, ◌<◌, ap, ◌∙◌, rules}
use Rattle.store.specs.Calls.{state_in}
use Rattle.worklist.specs.declared.step.Step.{Step}
use Rattle.worklist.proofs.CarryLaws.{small_flush, all_four, flush_told}
use Rattle.store.proofs.AgreeLaws.{card_of}
use Rattle.worklist.proofs.carry.carry_flush.Goals as goal

pub invariant_of-tell : goal.invariant_of-tell
invariant_of-tell g c =
    let wide : c.args.pages.0 < 2 ^ 64 = search rules in
    record { small = small_flush c.flush-outcome.result _ c.args.pages.0 wide c.flush-outcome.ensures.few }

pub returns-clause-told : goal.returns-clause-told
returns-clause-told g c =
    let me = c.args.store.now in
    let then = c.flush-outcome.new.self in
    let s = state_in me.maps (g.F.Flash.card me.flash) in
    let s' = state_in then.maps (g.F.Flash.card then.flash) in
    let wide : c.args.pages.0 < 2 ^ 64 = search rules in
    flush_told s s' (g.F.Flash.card me.flash) (card_of me.maps (g.F.Flash.card me.flash)) c.args.fields.now _ c.args.area.now _ c.flush-outcome.result _ c.flush-outcome.ensures.clears
    c.args.block.0 c.args.pages.0 c.args.bytes.now _ wide c.flush-outcome.ensures.tells c.flush-outcome.ensures.leaves c.flush-outcome.ensures.few (c.tell.ensures.wrote ∙ all_four _ c.args.fields.now (search rules))
    (ap (λ (k : Step). k.written) c.tell.ensures.counts) (ap (λ (k : Step). k.erases) c.tell.ensures.counts) c.group_counts-large.ensures
