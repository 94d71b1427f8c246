-- No call changes the plan, nor the pages a block.
use Rattle.std.proofs.Common.{◌≡◌, ℕ, zero, suc, ◌*◌, Bool, true, false, ltb, leb, List, Some, None, Option, sym, refl, ◌∙◌, subst}
use Rattle.rules.specs.Calls.{Call, flush, read, discard, idle, Answer, row_of, flushed_as, flushed, rested_as, rested, unless, step}
use Rattle.rules.specs.Moves.{Row, Work, dropped, compacted_at, rewritten, round_as, round, more, rounds_for, at_rest, open_block, stored_at, stored, appended}
use Rattle.rules.specs.Sets.{has, pages_in}
use Rattle.rules.specs.State.{State, dead_of, free_of}
use Rattle.rules.proofs.Steps.{number_for, meant_by, step_is}

pub record Same (s t : State) : Type 0 where
  pub plan : t.plan ≡ s.plan
  pub pages : t.pages ≡ s.pages

same_still : (s : State) → Same s s
same_still s = record { plan = refl; pages = refl }

pub same_then : (s t u : State) → Same s t → Same t u → Same s u
same_then s t u p q = record { plan = q.plan ∙ p.plan; pages = q.pages ∙ p.pages }

same_dropped : (s : State) (d : ℕ) (picks : ℕ → Bool) → Same s (dropped s d picks)
unfolding dropped
same_dropped s d picks = record { plan = refl; pages = refl }

same_round : (w : Work) → Same w.state (round w).state
unfolding round compacted_at rewritten
same_round w = go (ltb 0 (dead_of w.state))
  where
    go : (b : Bool) → Same w.state (round_as b w).state
    go true = record { plan = refl; pages = refl }
    go false = record { plan = refl; pages = refl }

same_rounds : (k n : ℕ) (w : Work) → Same w.state (rounds_for k n w).state
unfolding rounds_for
same_rounds zero n w = same_still w.state
same_rounds (suc k) n w = go (same_rounds k n (round w)) (ltb (free_of w.state) n)
  where
    go : Same (round w).state (rounds_for k n (round w)).state → (b : Bool) → Same w.state (more b (rounds_for k n) w).state
    go later true = same_then w.state (round w).state (rounds_for k n (round w)).state (same_round w) later
    go later false = same_still w.state

same_stored : (s : State) (d i : ℕ) (x : Option (List ℕ)) → Same s (stored s d i x)
same_stored s d i None = same_still s
same_stored s d i (Some x) = go (open_block s.pages s.reserve 0 s.table)
  where
    go : (r : Option ℕ) → Same s (stored_at s d i x r)
    go None = same_still s
    go (Some r) = record { plan = refl; pages = refl }

same_appended : (s : State) (d : ℕ) (row : Row) (n : ℕ) → Same s (appended s d row n)
unfolding appended
same_appended s d row zero = same_still s
same_appended s d row (suc n) =
    same_then s (appended s d row n) (appended s d row (suc n)) (same_appended s d row n) (same_stored (appended s d row n) d n (row n))

same_flushed : (s : State) (d g : ℕ) (row : Row) → Same s (flushed s d g row).1
unfolding flushed rewritten
same_flushed s d g row = go (ltb s.plan.threshold (pages_in s.pages g))
  where
    go : (b : Bool) → Same s (flushed_as b s d g row (pages_in s.pages g)).1
    go true = record { plan = refl; pages = refl }
    go false =
        let n = pages_in s.pages g in
        let u : State = (rounds_for (2 * n) n (at_rest s)).state in
        let k : State = dropped u d (has g) in
        same_then s u (appended k d row s.pages) (same_rounds (2 * n) n (at_rest s))
        (same_then u k (appended k d row s.pages) (same_dropped u d (has g)) (same_appended k d row s.pages))

same_rested : (s : State) → Same s (rested s).1
unfolding rested
same_rested s = go (leb (free_of s) s.plan.idle)
  where
    go : (b : Bool) → Same s (rested_as b s).1
    go true = same_round (at_rest s)
    go false = same_still s

same_meant : (s : State) (c : Call) → Same s (meant_by s c).1
same_meant s (flush d g bytes area) = same_flushed s d g (row_of s.card.shape.size g bytes)
same_meant s (read d i len) = same_still s
same_meant s (discard d g) = same_dropped s d (has g)
same_meant s (idle area) = same_rested s

pub same_step : (s : State) (c : Call) → Same s (step s c).1
same_step s c = subst (λ (x : Answer × State). Same s x.1) (sym (step_is s c)) (go (number_for s c))
  where
    go : (k : ℕ) → Same s (unless k s (meant_by s c)).1
    go zero = same_meant s c
    go (suc k) = same_still s
