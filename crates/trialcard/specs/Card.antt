-- The trial card, and what it prints for a work list.
use Rattle.std.specs.Prelude.{◌≡◌, ℕ, ◌+◌, cond, List, ◌++◌, length, replicate, Some, nat_le}
use Rattle.flash.specs.Meaning.{Card, blank_card}
use Rattle.rules.specs.declared.plan.Plan.{Plan}
use Rattle.rules.specs.Calls.{formatted}
use Rattle.worklist.specs.declared.ended.Ended.{Ended}
use Rattle.worklist.specs.Numbers.{end_number}
use Rattle.worklist.specs.Runs.{Outcome, run_of, ended_as, answers_after}
use Rattle.trialcard.specs.Lines.{lines_for, end_line}

-- a fresh chip of 5 blocks, each of 4 pages of 4 bytes, rated for 1,000 erases
abbrev pub trial_chip : Card
trial_chip = blank_card (record { blocks = 5; pages = 4; size = 4; endurance = 1000 })

-- 2 data blocks, 3 blocks of the page-mapped region, threshold 2, idle limit 0
abbrev pub trial_plan : Plan
trial_plan = record { «data» = 2; region = 3; threshold = 2; idle = 0 }

-- the run of a list on the card as an accepted format leaves it, with a work area of a block, and room for so many bytes of answers
abbrev pub trial_run : List ℕ → ℕ → Outcome
trial_run xs room = run_of xs 4 room (Some (formatted trial_plan trial_chip)) (replicate 16 0)

-- what such a run tells and writes
pub record RanOn (xs was is : List ℕ) (r : Ended) : Type 0 where
  pub tells : r ≡ ended_as (Some (formatted trial_plan trial_chip)) (trial_run xs (length was))
  pub answers : is ≡ answers_after (trial_run xs (length was)) was

abbrev pub outcome_text : Outcome → List ℕ
outcome_text o = lines_for (length o.done.answers + 1) o.done.answers ++ end_line (end_number o.fault) o.place

-- what is printed for a list: a line for each record and the last line, or only the last line if the list is longer than 4,096 bytes.
-- (16,384 bytes have room for the answers to any list of 4,096 bytes: no record takes fewer than 2, and no answer more than 8.)
unfoldable pub text_for : List ℕ → List ℕ
text_for xs = cond (nat_le (length xs) 4096) (outcome_text (trial_run xs 16384)) (end_line 5 0)
