-- The account of a run: where its slots went, and which blocks its erases were of.
use Rattle.std.proofs.Common.{◌≡◌, ℕ, zero, suc, ◌+◌, ◌*◌, ◌≤◌, Bool, true, false, cond, ltb, leb, List, [], ◌∷◌, ◌++◌, ap, subst, add-mul, arith}
use Rattle.std.proofs.lemmas.List.Sums.{sum_by-append}
use Rattle.rules.specs.declared.plan.Plan.{Plan}
use Rattle.rules.specs.Sets.{pages_in}
use Rattle.rules.specs.State.{State, quota, live_of, dead_of, free_of}
use Rattle.rules.specs.Moves.{Round, clearing, round, rounds_for, at_rest, one_compaction, one_merge, compactions_in, merges_in, recovered_in}
use Rattle.rules.specs.Calls.{Call, flush, read, discard, idle, step}
use Rattle.rules.specs.Runs.{Log}
use Rattle.rules.proofs.Steps.{number_for}
use Rattle.rules.proofs.Rounds.{Good, Moved, moved_none, moved_then}
use Rattle.rules.proofs.Works.{recovered, data_erases_in, quota_same}

-- ---- what a call does besides its answer

-- the rounds of a flush of n pages, large or not
abbrev pub rounds_flushed : Bool → State → ℕ → List Round
rounds_flushed true s n = []
rounds_flushed false s n = (rounds_for (2 * n) n (at_rest s)).rounds

-- the rounds of an idle call, with few free slots or not
abbrev pub rounds_rested : Bool → State → List Round
rounds_rested true s = (round (at_rest s)).rounds
rounds_rested false s = []

-- the rounds of a call that is not refused
abbrev pub rounds_meant : State → Call → List Round
rounds_meant s (flush d g bytes area) = rounds_flushed (ltb s.plan.threshold (pages_in s.pages g)) s (pages_in s.pages g)
rounds_meant s (read d i len) = []
rounds_meant s (discard d g) = []
rounds_meant s (idle area) = rounds_rested (leb (free_of s) s.plan.idle) s

-- the data blocks that it erases as a large group
abbrev pub erases_meant : State → Call → ℕ
erases_meant s (flush d g bytes area) = cond (ltb s.plan.threshold (pages_in s.pages g)) (clearing s.card d) 0
erases_meant s (read d i len) = 0
erases_meant s (discard d g) = 0
erases_meant s (idle area) = 0

-- a refused call makes no round
abbrev pub rounds_unless : ℕ → List Round → List Round
rounds_unless zero rs = rs
rounds_unless (suc n) rs = []

abbrev pub erases_unless : ℕ → ℕ → ℕ
erases_unless zero e = e
erases_unless (suc n) e = 0

-- the rounds that a call makes
abbrev pub rounds_by : State → Call → List Round
rounds_by s c = rounds_unless (number_for s c) (rounds_meant s c)

-- the data blocks that a call erases: as a large group, and in its merges
abbrev pub data_erases_by : State → Call → ℕ
data_erases_by s c = erases_unless (number_for s c) (erases_meant s c + data_erases_in (rounds_meant s c))

-- the same of all calls of a log, from the state s on
abbrev pub rounds_of : State → Log → List Round
rounds_of s [] = []
rounds_of s (e ∷ log) = rounds_by s e.0 ++ rounds_of (step s e.0).1 log

abbrev pub data_erases_of : State → Log → ℕ
data_erases_of s [] = 0
data_erases_of s (e ∷ log) = data_erases_by s e.0 + data_erases_of (step s e.0).1 log

-- ---- the account

-- from s to t, with `large` large groups and `small` pages of other groups, the rounds rs, and n data blocks erased
pub record Account (s : State) (large small : ℕ) (rs : List Round) (n : ℕ) (t : State) : Type 0 where
  -- each compaction erases one block of the region, and there are no other erases but those of the data blocks
  pub leaves : Moved (compactions_in rs + n) s t
  -- each page of a small group took a slot, which is live or dead or was recovered
  pub slots : live_of t + dead_of t + recovered_in rs ≡ live_of s + dead_of s + small
  -- each compaction recovered at least one
  pub recovers : compactions_in rs ≤ recovered_in rs
  -- each data block erased was erased by a large group or by a merge
  pub data_le : n ≤ large + merges_in rs
  -- each merge found at least Q live slots, and one of L of these was of its block
  pub shares : merges_in rs * quota s.plan s.pages + live_of t * s.plan.data ≤ (live_of s + small) * s.plan.data

pub account_none : (s : State) → Good s → Account s 0 0 [] 0 s
account_none s g =
    record {
      leaves = moved_none s g;
      slots = omega arith;
      recovers = omega arith;
      data_le = omega arith;
      shares = let e : (live_of s + 0) * s.plan.data ≡ live_of s * s.plan.data = ap (λ (n : ℕ). n * s.plan.data) (omega arith) in omega arith;
    }

-- one account after another
pub account_then :
    (a b c : State) (g h m k : ℕ) (rs qs : List Round) (n o : ℕ) → Account a g m rs n b → Account b h k qs o c →
    Account a (g + h) (m + k) (rs ++ qs) (n + o) c
account_then a b c g h m k rs qs n o p r =
    let comps : compactions_in (rs ++ qs) ≡ compactions_in rs + compactions_in qs = sum_by-append one_compaction rs qs in
    let merges : merges_in (rs ++ qs) ≡ merges_in rs + merges_in qs = sum_by-append one_merge rs qs in
    let back : recovered_in (rs ++ qs) ≡ recovered_in rs + recovered_in qs = sum_by-append recovered rs qs in
    let total : compactions_in rs + n + (compactions_in qs + o) ≡ compactions_in (rs ++ qs) + (n + o) = omega arith in
    record {
      leaves =
          subst (λ (e : ℕ). Moved e a c) total
          (moved_then (compactions_in rs + n) (compactions_in qs + o) a b c p.leaves r.leaves);
      slots = omega (arith, p.slots, r.slots);
      recovers = omega (arith, p.recovers, r.recovers);
      data_le = omega (arith, p.data_le, r.data_le);
      shares =
          let l = a.plan.data in
          let q = quota a.plan a.pages in
          let el : b.plan.data ≡ l = ap (λ (x : Plan). x.data) p.leaves.plan_same in
          let eq : quota b.plan b.pages ≡ q = quota_same a b p.leaves in
          let x : merges_in qs * q + live_of c * l ≤ (live_of b + k) * l =
          subst (λ (y : ℕ). merges_in qs * y + live_of c * l ≤ (live_of b + k) * l) eq
          (subst (λ (y : ℕ). merges_in qs * quota b.plan b.pages + live_of c * y ≤ (live_of b + k) * y) el r.shares) in
          let y : merges_in (rs ++ qs) * q ≡ (merges_in rs + merges_in qs) * q = ap (λ (z : ℕ). z * q) merges in
          let z : (live_of a + (m + k)) * l ≡ (live_of a + m + k) * l = ap (λ (z : ℕ). z * l) (omega arith) in
          omega (arith, p.shares, add-mul (merges_in rs) (merges_in qs) q, add-mul (live_of b) k l, add-mul (live_of a + m) k l);
    }
