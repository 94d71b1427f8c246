-- What a run from a state without slots in use adds up to, and that its erases stay below the ceiling.
use Rattle.std.proofs.Common.{◌≡◌, ℕ, ◌+◌, ◌*◌, ◌/◌, ◌<◌, ◌≤◌, List, ap, mul-le-mul_right, le-div_iff_mul-le, div-mul-le_self, arith}
use Rattle.rules.specs.declared.plan.Plan.{Plan}
use Rattle.rules.specs.State.{State, quota, live_of, dead_of}
use Rattle.rules.specs.Moves.{Round, compactions_in, merges_in, recovered_in}
use Rattle.rules.specs.Runs.{Log, Ran, erases_of, large_groups_in, small_pages_in, ceiling}
use Rattle.rules.specs.Law.{wear, ceiling_of}
use Rattle.rules.proofs.Accounts.{rounds_of, data_erases_of, Account}
use Rattle.rules.proofs.CallAccounts.{BookedRun, booked_run}
use Rattle.rules.proofs.Formatted.{Fresh}

-- the erases of an account from a state without slots in use are at most G + M + ⌊M × L ÷ Q⌋
pub account_ceiling :
    (s t : State) (g m : ℕ) (rs : List Round) (n : ℕ) → Fresh s → Account s g m rs n t → compactions_in rs + n ≤ ceiling s.plan s.pages g m
account_ceiling s t g m rs n fresh a =
    let l = s.plan.data in
    let q = quota s.plan s.pages in
    let e : (live_of s + m) * l ≡ m * l = ap (λ (x : ℕ). x * l) (omega (arith, fresh.no_live)) in
    let d : merges_in rs ≤ m * l / q = (le-div_iff_mul-le fresh.ready.quota_some).1 (omega (arith, a.shares)) in
    omega (arith, a.slots, a.recovers, a.data_le, fresh.no_live, fresh.no_dead)

-- a log that goes on has no lower a ceiling
pub ceiling_more :
    (p : Plan) (n g h m k : ℕ) → 0 < quota p n → g ≤ h → m ≤ k → ceiling p n g m ≤ ceiling p n h k
ceiling_more p n g h m k z a b =
    let q = quota p n in
    let up : m * p.data ≤ k * p.data = mul-le-mul_right p.data b in
    let down : m * p.data / q * q ≤ m * p.data = div-mul-le_self (m * p.data) q in
    let d : m * p.data / q ≤ k * p.data / q = (le-div_iff_mul-le z).1 (omega arith) in
    omega arith

-- G and M of a log
abbrev pub G : State → Log → ℕ
G s log = large_groups_in s.plan.threshold s.pages log

abbrev pub M : State → Log → ℕ
M s log = small_pages_in s.plan.threshold s.pages log

module _ (s t : State) (log : Log) (ran : Ran s log t) (fresh : Fresh s) where
  books : BookedRun s log t
  books = booked_run ran fresh.ready

  -- each small page took a slot, which is live or dead or was recovered
  pub slot_account : M s log ≡ live_of t + dead_of t + recovered_in (rounds_of s log)
  slot_account = omega (arith, books.account.slots, fresh.no_live, fresh.no_dead)

  -- each compaction recovered at least one slot
  pub compactions_recover : compactions_in (rounds_of s log) ≤ recovered_in (rounds_of s log)
  compactions_recover = books.account.recovers

  -- each erase was of a compaction or of a data block
  pub erase_account : erases_of log ≡ compactions_in (rounds_of s log) + data_erases_of s log
  erase_account = books.tells

  -- each data block erased was erased by a large group or by a merge
  pub data_erases_le : data_erases_of s log ≤ G s log + merges_in (rounds_of s log)
  data_erases_le = books.account.data_le

  -- each merge took its share of at least Q live slots
  pub merges_le : merges_in (rounds_of s log) * quota s.plan s.pages ≤ M s log * s.plan.data
  merges_le =
      let e : (live_of s + M s log) * s.plan.data ≡ M s log * s.plan.data = ap (λ (n : ℕ). n * s.plan.data) (omega (arith, fresh.no_live)) in
      omega (arith, books.account.shares)

  -- the erase counts rise by just what the answers tell
  pub wear_told : wear t.card ≡ wear s.card + erases_of log
  wear_told = omega (arith, books.account.leaves.card_alike.wear_is, erase_account)

  -- and by at most the ceiling
  pub erases_le : erases_of log ≤ ceiling_of s log
  erases_le =
      omega (arith, erase_account, account_ceiling s t (G s log) (M s log) (rounds_of s log) (data_erases_of s log) fresh books.account)
