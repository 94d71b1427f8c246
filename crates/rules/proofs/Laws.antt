-- The law of every run: an accepted format leaves a state that shows the empty ledger, and so every run from it keeps its promises.
use Rattle.std.proofs.Common.{◌≡◌, ℕ, zero, suc, ◌+◌, Bool, false, cond, [], get_or, replicate, count_by, sym, refl, ap, ◌∙◌, subst, arith}
use Rattle.std.proofs.lemmas.Bool.{both_ways}
use Rattle.flash.specs.Meaning.{Card, Sound}
use Rattle.rules.specs.declared.plan.Plan.{Plan}
use Rattle.rules.specs.Sets.{has}
use Rattle.rules.specs.State.{is_at, places}
use Rattle.rules.specs.Calls.{formatted}
use Rattle.rules.specs.Runs.{empty, ledger_of}
use Rattle.rules.specs.Law.{Law}
use Rattle.rules.proofs.SetLaws.{has_none}
use Rattle.rules.proofs.Sums.{sum_replicate_zero}
use Rattle.rules.proofs.Accepted.{CanFormat, can_format}
use Rattle.rules.proofs.CardPages.{Backed, paged_cleared_below}
use Rattle.rules.proofs.Faith.{Faith, shows}
use Rattle.rules.proofs.FaithCalls.{faith_run}
use Rattle.rules.proofs.Formatted.{good_formatted, fresh_formatted}
use Rattle.rules.proofs.Ceiling.{wear_told, erases_le}

-- ---- format

replicate_at : {X : Type 0} (n r : ℕ) (x : X) → get_or (replicate n x) r x ≡ x
replicate_at zero r x = refl
replicate_at (suc n) zero x = refl
replicate_at (suc n) (suc r) x = replicate_at n r x

-- a format leaves a state that shows the empty ledger
pub faith_formatted : (p : Plan) (c : Card) → Sound c → CanFormat p c → Faith empty (formatted p c)
unfolding formatted places
faith_formatted p c so can =
    let bit : (d i : ℕ) → has (get_or (replicate p.data 0) d 0) i ≡ false =
    λ d i. ap (λ (x : ℕ). has x i) (replicate_at p.data d 0) ∙ has_none i in
    record {
      good = good_formatted p c can;
      paged = paged_cleared_below c.shape.pages (p.data + p.region) c can.inside refl (λ b h. (so.each b h).page_count);
      within = λ d i x e. absurd (let z : ◌≡◌ {A = ℕ} 0 1 = cc in omega arith);
      once = λ d i.
          let z : ◌≡◌ {A = ℕ} (cond (has (get_or (replicate p.data 0) d 0) i) 1 0) 0 = ap (λ (b : Bool). cond b 1 0) (bit d i) in
          omega (arith, sum_replicate_zero (count_by (is_at d i)) [] refl p.region);
      slots = λ r lt. subst (Backed empty (formatted p c).card (p.data + r) 0) (sym (replicate_at p.region r [])) tt;
      data_pages = λ d i b. absurd (both_ways (has (get_or (replicate p.data 0) d 0) i) (bit d i) b);
    }

-- ---- the law

pub law : Law
law p c so e log end ran =
    let s = formatted p c in
    let can = can_format p c e in
    let fresh = fresh_formatted p c can in
    record {
      bounded = omega (arith, wear_told s end log ran fresh, erases_le s end log ran fresh);
      told = wear_told s end log ran fresh;
      faithful =
          shows (ledger_of s.card.shape.size log empty) end
          (faith_run ran empty (faith_formatted p c so can) fresh.ready s.card.shape.size refl);
    }
