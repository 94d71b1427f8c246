-- What every run of calls keeps, from the state that an accepted format left.
use Rattle.std.specs.Prelude.{◌≡◌, ℕ, ◌+◌, ◌<◌, ◌≤◌, List, [], ◌∷◌, Some, None, sum_by, Option, ◌≢◌}
use Rattle.flash.specs.Meaning.{Card, Block, block_count, page_at, erase_count_at, Sound}
use Rattle.rules.specs.declared.plan.Plan.{Plan}
use Rattle.rules.specs.State.{State, held, places}
use Rattle.rules.specs.Calls.{read, refused, done, step, formatted, format_number}
use Rattle.rules.specs.Runs.{Log, Ran, empty, ledger_of, erases_of, large_groups_in, small_pages_in, ceiling}

-- the erase counts of all blocks, added up
abbrev pub wear : Card → ℕ
wear c = sum_by (λ (x : Block). x.erases) c.blocks

-- a read is refused, and with 14 if the page is one of the plan
pub record Unread (s : State) (d i : ℕ) : Type 0 where
  pub number : ℕ
  pub is : (step s (read d i s.card.shape.size)).0 ≡ refused number
  pub of_plan : d < s.plan.data → i < s.pages → number ≡ 14

-- a read gives these bytes, from the one flash page that the maps name
pub record Reads (s : State) (d i : ℕ) (x : List ℕ) : Type 0 where
  pub way : ℕ
  pub block : ℕ
  pub page : ℕ
  pub names : held s d i ≡ Some (way, block, page)
  pub holds : page_at s.card block page ≡ x
  pub gives : (step s (read d i s.card.shape.size)).0 ≡ done (record { way = way; erases = 0; compactions = 0; merges = 0; bytes = x })

-- what the store shows of a page against what the ledger has of it
abbrev pub Shows : State → Option (List ℕ) → ℕ → ℕ → Type 0
Shows s None d i = (places s d i ≡ 0) × Unread s d i
Shows s (Some x) d i = (places s d i ≡ 1) × Reads s d i x

-- G + M + ⌊M × L ÷ Q⌋ of a log
abbrev pub ceiling_of : State → Log → ℕ
ceiling_of start log =
    ceiling start.plan start.pages (large_groups_in start.plan.threshold start.pages log) (small_pages_in start.plan.threshold start.pages log)

-- the three promises of a run, from the state `start` to the state `end`
pub record Keeps (start : State) (log : Log) (end : State) : Type 0 where
  -- the erase counts have risen by at most G + M + ⌊M × L ÷ Q⌋
  pub bounded : wear end.card ≤ wear start.card + ceiling_of start log
  -- they have risen by just what the answers tell
  pub told : wear end.card ≡ wear start.card + erases_of log
  -- every page, also one outside the plan, is as the ledger has it
  pub faithful : (d i : ℕ) → Shows end (ledger_of start.card.shape.size log empty d i) d i

-- every run from a state keeps the promises
abbrev pub Kept : State → Type 0
Kept start = (log : Log) (end : State) → Ran start log end → Keeps start log end

-- the law: a state that an accepted format left keeps the promises, over every sound card
abbrev pub Law : Type 0
Law = (p : Plan) (c : Card) → Sound c → format_number p c ≡ 0 → Kept (formatted p c)

-- no answer is a refusal for wear
abbrev pub NeverWorn : Log → Type 0
NeverWorn [] = Unit {0}
NeverWorn (e ∷ log) = (e.1 ≢ refused 12) × NeverWorn log

-- a run is never refused for wear while each block has its ceiling and 128 erases to spare when it begins
abbrev pub Lasts : State → Type 0
Lasts start =
    (log : Log) (end : State) → Ran start log end →
    ((b : ℕ) → b < block_count start.card → erase_count_at start.card b + ceiling_of start log + 128 ≤ start.card.shape.endurance) →
    NeverWorn log

-- the same of every state that an accepted format left
abbrev pub Lasting : Type 0
Lasting = (p : Plan) (c : Card) → Sound c → format_number p c ≡ 0 → Lasts (formatted p c)
