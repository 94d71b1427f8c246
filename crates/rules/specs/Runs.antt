-- Runs of calls, and what is counted of them: from the calls and the answers alone.
use Rattle.std.specs.Prelude.{◌≡◌, ℕ, ◌+◌, ◌*◌, ◌/◌, Bool, true, false, cond, ◌&&◌, List, [], ◌∷◌, None, Option, ◌==◌, nat_lt}
use Rattle.rules.specs.declared.plan.Plan.{Plan}
use Rattle.rules.specs.Sets.{has, pages_in}
use Rattle.rules.specs.State.{State, quota}
use Rattle.rules.specs.Calls.{Call, flush, read, discard, idle, Answer, refused, done, row_of, step}

-- calls with their answers, in their order
abbrev pub Log : Type 0
Log = List (Call × Answer)

-- a run: each call finds the state that the one before left, and answers and leaves what it promises
pub data Ran : State → Log → State → Type 0 where
  still : {s : State} → Ran s [] s
  after : {s t u : State} {c : Call} {a : Answer} {log : Log} → step s c ≡ (a, t) → Ran t log u → Ran s ((c, a) ∷ log) u

abbrev pub accepted : Answer → Bool
accepted (refused n) = false
accepted (done r) = true

-- ---- the ledger: for each logical page the bytes last flushed, or nothing

abbrev pub Ledger : Type 0
Ledger = ℕ → ℕ → Option (List ℕ)

abbrev pub empty : Ledger
empty d i = None

-- an accepted flush enters its pages, an accepted discard takes the named ones out
unfoldable pub entered : ℕ → Call → Ledger → Ledger
entered size (flush d set bytes area) ledger e j = cond (e == d && has set j) (row_of size set bytes j) (ledger e j)
entered size (read d i len) ledger e j = ledger e j
entered size (discard d set) ledger e j = cond (e == d && has set j) None (ledger e j)
entered size (idle area) ledger e j = ledger e j

-- of an answer the ledger sees only whether it is a refusal
abbrev pub ledger_of : ℕ → Log → Ledger → Ledger
ledger_of size [] ledger = ledger
ledger_of size (e ∷ log) ledger = ledger_of size log (cond (accepted e.1) (entered size e.0 ledger) ledger)

-- ---- counts

-- the erases that an answer tells
abbrev pub erases_told : Answer → ℕ
erases_told (refused n) = 0
erases_told (done r) = r.erases

abbrev pub erases_of : Log → ℕ
erases_of [] = 0
erases_of (e ∷ log) = erases_told e.1 + erases_of log

-- a flush of more pages than the threshold is a large group
abbrev pub large_in : ℕ → ℕ → Call → ℕ
large_in threshold pages (flush d set bytes area) = cond (nat_lt threshold (pages_in pages set)) 1 0
large_in threshold pages (read d i len) = 0
large_in threshold pages (discard d set) = 0
large_in threshold pages (idle area) = 0

-- the pages of any other flush
abbrev pub small_in : ℕ → ℕ → Call → ℕ
small_in threshold pages (flush d set bytes area) = cond (nat_lt threshold (pages_in pages set)) 0 (pages_in pages set)
small_in threshold pages (read d i len) = 0
small_in threshold pages (discard d set) = 0
small_in threshold pages (idle area) = 0

-- G: the accepted large groups
abbrev pub large_groups_in : ℕ → ℕ → Log → ℕ
large_groups_in threshold pages [] = 0
large_groups_in threshold pages (e ∷ log) = cond (accepted e.1) (large_in threshold pages e.0) 0 + large_groups_in threshold pages log

-- M: the pages of the other accepted groups
abbrev pub small_pages_in : ℕ → ℕ → Log → ℕ
small_pages_in threshold pages [] = 0
small_pages_in threshold pages (e ∷ log) = cond (accepted e.1) (small_in threshold pages e.0) 0 + small_pages_in threshold pages log

-- G + M + ⌊M × L ÷ Q⌋
abbrev pub ceiling : Plan → ℕ → ℕ → ℕ → ℕ
ceiling p pages g m = g + m + m * p.data / quota p pages
