use Rattle.std.proofs.Common.{◌∙◌, rules}
use Rattle.store.specs.Calls.{state_in}
use Rattle.worklist.proofs.CarryLaws.{small_idle, all_four, idle_told}
use Rattle.store.proofs.AgreeLaws.{card_of}
use Rattle.worklist.proofs.carry.carry_idle.Goals as goal

pub invariant_of-tell : goal.invariant_of-tell
invariant_of-tell g c =
    let me = c.args.store.now in
    record { small = small_idle (state_in me.maps (g.F.Flash.card me.flash)) _ c.idle_round-outcome.result c.idle_round-outcome.ensures.tells }

pub returns-clause-told : goal.returns-clause-told
returns-clause-told g c =
    let me = c.args.store.now in
    let then = c.idle_round-outcome.new.self in
    let s = state_in me.maps (g.F.Flash.card me.flash) in
    let s' = state_in then.maps (g.F.Flash.card then.flash) in
    idle_told s s' (g.F.Flash.card me.flash) (card_of me.maps (g.F.Flash.card me.flash)) c.args.fields.now _ c.args.area.now _ c.idle_round-outcome.result 0 c.idle_round-outcome.ensures.clears
    c.tell.result c.idle_round-outcome.ensures.tells c.idle_round-outcome.ensures.leaves (c.tell.ensures.wrote ∙ all_four _ c.args.fields.now (search rules)) c.tell.ensures.counts
