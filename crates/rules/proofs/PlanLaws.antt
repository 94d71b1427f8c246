-- What it means that a plan is within its limits.
use Rattle.std.proofs.Common.{◌≡◌, ℕ, ◌+◌, ◌≤◌, true, arith}
use Rattle.std.proofs.lemmas.Bool.Decides.{nat_tests}
use Rattle.rules.specs.declared.plan.Plan.{Plan}
use Rattle.rules.specs.State.{capacity, plan_within}

pub record PlanLimits (p : Plan) (pages : ℕ) : Type 0 where
  pub some_data : 1 ≤ p.data
  pub few_data : p.data ≤ 128
  pub two_blocks : 2 ≤ p.region
  pub few_blocks : p.region ≤ 16
  pub threshold : p.threshold ≤ pages
  pub idle : p.idle + 1 ≤ capacity p pages

pub plan_limits : (p : Plan) (pages : ℕ) → plan_within p pages ≡ true → PlanLimits p pages
plan_limits p pages e =
    record {
      some_data = grind (arith, nat_tests);
      few_data = grind (arith, nat_tests);
      two_blocks = grind (arith, nat_tests);
      few_blocks = grind (arith, nat_tests);
      threshold = grind (arith, nat_tests);
      idle = grind (arith, nat_tests);
    }
