use Rattle.std.proofs.Common.{◌≡◌, refl, ap, ◌∙◌}
use Rattle.store.specs.Calls.{state_in}
use Rattle.store.proofs.AgreeLaws.{card_of}
use Rattle.trialcard.specs.Card.{trial_chip}
use Rattle.trialcard.proofs.CardLaws.{trial_formatted, ran_on}
use Rattle.trialcard.proofs.card.run_on.Goals as goal

pub returns : goal.returns
returns g c =
    λ chip.
    let new = c.new-store.result in
    let card : g.F.Flash.card new.flash ≡ trial_chip = ap (λ (x : _). g.F.Flash.card x) c.new-store.ensures.over ∙ chip in
    let was = state_in new.maps (g.F.Flash.card new.flash) in
    let st = c.format.new.self in
    let is = state_in st.maps (g.F.Flash.card st.flash) in
    let end = c.run.new.store in
    let later = state_in end.maps (g.F.Flash.card end.flash) in
    ran_on is later (g.F.Flash.card st.flash) c.args.list.now c.args.answers.now c.run.new.answers _ _ c.run.result
    (card_of st.maps (g.F.Flash.card st.flash)) (trial_formatted c.format.result _ was is card c.format.ensures.tells c.format.ensures.leaves) refl c.run.ensures
