-- An accepted format leaves a state that is ready for calls, with no slot in use.
use Rattle.std.proofs.Common.{◌≡◌, ◌+◌, ◌-◌, ◌*◌, ◌^◌, ◌<◌, ◌≤◌, false, [], sym, refl, ap, mul-le-mul_right, arith}
use Rattle.std.proofs.lemmas.List.Elements.{All-replicate}
use Rattle.std.proofs.lemmas.List.{length-replicate, get_or-replicate}
use Rattle.flash.specs.Meaning.{Card, Shape}
use Rattle.rules.specs.declared.plan.Plan.{Plan}
use Rattle.rules.specs.State.{State, capacity, quota, lives, deads, live_of, dead_of}
use Rattle.rules.specs.Calls.{clearing_below, formatted}
use Rattle.rules.specs.Ready.{Filed}
use Rattle.rules.proofs.SetLaws.{set_of_below}
use Rattle.rules.proofs.Sums.{sum_replicate_zero}
use Rattle.rules.proofs.Slots.{filed_none}
use Rattle.rules.proofs.CardCounts.{Alike, alike_cleared_below}
use Rattle.rules.proofs.Rounds.{Good}
use Rattle.rules.proofs.Space.{Ready}
use Rattle.rules.proofs.Accepted.{CanFormat}

-- a state that is ready, and of which no slot is in use
pub record Fresh (s : State) : Type 0 where
  pub ready : Ready s
  pub no_live : live_of s ≡ 0
  pub no_dead : dead_of s ≡ 0

module _ (p : Plan) (c : Card) (can : CanFormat p c) where
  -- the card that a format leaves, with the erases that it took
  pub formatted_alike : Alike (clearing_below (p.data + p.region) c) c (formatted p c).card
  unfolding formatted
  formatted_alike = alike_cleared_below (p.data + p.region) c can.inside

  pub good_formatted : Good (formatted p c)
  unfolding formatted
  good_formatted =
      record {
        some_data = omega (arith, can.some_data);
        inside = omega (arith, can.inside, formatted_alike.blocks_same);
        pages_are = ap (λ (x : Shape). x.pages) (sym formatted_alike.shape_same);
        sets_are = length-replicate p.data 0;
        sets_fit = All-replicate (λ g. g < 2 ^ c.shape.pages) p.data 0 (omega (arith, set_of_below c.shape.pages (λ _. false)));
        rows = length-replicate p.region [];
        reserve_in = omega (arith, can.two);
        reserve_empty = get_or-replicate p.region (p.region - 1) [] [] (omega (arith, can.two));
        filed = All-replicate (Filed p.data c.shape.pages) p.region [] (filed_none p.data c.shape.pages);
      }

  -- Q is at least 1, since the threshold and the idle limit leave a slot
  pub quota_some : 0 < quota p c.shape.pages
  quota_some =
      let wide : 1 * c.shape.pages ≤ capacity p c.shape.pages = mul-le-mul_right c.shape.pages (omega (arith, can.two)) in
      omega (arith, can.threshold, can.idle)

  pub fresh_formatted : Fresh (formatted p c)
  unfolding formatted
  fresh_formatted =
      record {
        ready = record { good = good_formatted; quota_some = quota_some };
        no_live = sum_replicate_zero lives [] refl p.region;
        no_dead = sum_replicate_zero deads [] refl p.region;
      }
