-- What format answers, test by test, and the state that it leaves.
use Rattle.std.proofs.Common.{◌≡◌, ℕ, ◌+◌, ◌<◌, ◌≤◌, true, false, Some, refl, ◌∙◌}
use Rattle.std.proofs.lemmas.Bool.{lt-ltb, le-ltb}
use Rattle.flash.specs.Meaning.{Card, block_count, Sound}
use Rattle.rules.specs.declared.plan.Plan.{Plan}
use Rattle.rules.specs.State.{State, plan_within}
use Rattle.rules.specs.Calls.{near_worn, format_number, cleared_below, formatted}
use Rattle.rules.proofs.ReadyCalls.{ready_formatted}
use Rattle.store.specs.declared.maps.Maps.{Maps}
use Rattle.store.specs.Calls.{state_in}
use Rattle.store.specs.State.{state_of, empty_maps}
use Rattle.store.proofs.AgreeLaws.{state_kept}

module _ (p : Plan) (c : Card) where
  pub format_15 : plan_within p c.shape.pages ≡ false → format_number p c ≡ 15
  unfolding format_number
  format_15 e = rw e refl

  module _ (within : plan_within p c.shape.pages ≡ true) where
    pub format_16 : block_count c < p.data + p.region → format_number p c ≡ 16
    unfolding format_number
    format_16 h = rw (within, lt-ltb (block_count c) (p.data + p.region) h) refl

    module _ (room : p.data + p.region ≤ block_count c) where
      pub format_12 : near_worn (block_count c) c ≡ true → format_number p c ≡ 12
      unfolding format_number
      format_12 e = rw (within, le-ltb (block_count c) (p.data + p.region) room, e) refl

      pub format_0 : near_worn (block_count c) c ≡ false → format_number p c ≡ 0
      unfolding format_number
      format_0 e = rw (within, le-ltb (block_count c) (p.data + p.region) room, e) refl

-- the maps of a plan without pages, over the cleared card, are the state that the rules have
pub formatted_is :
    (p : Plan) (n : ℕ) (c k : Card) (s : State) → s ≡ empty_maps p n k → n ≡ c.shape.pages → k ≡ cleared_below (p.data + p.region) c → s ≡ formatted p c
unfolding formatted
formatted_is p n c k s e f g = e ∙ rw (f, g) refl

-- and it is the state of the store
pub format_leaves :
    (p : Plan) (c k : Card) (m : Maps) → Sound c → format_number p c ≡ 0 → state_of m k ≡ formatted p c → state_in (Some m) k ≡ Some (formatted p c)
format_leaves p c k m sound ok e = state_kept m k (formatted p c) e (ready_formatted p c sound ok)
