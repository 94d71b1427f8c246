-- What carrying out one record promises.
use Rattle.std.specs.Prelude.{◌≡◌, ℕ, ◌<◌, ◌≤◌, cond, List, ◌++◌, length, drop, Some, None, Option, ◌==◌}
use Rattle.rules.specs.Calls.{Call, Answer, refused, done}
use Rattle.rules.specs.Runs.{accepted, erases_told, large_in, small_in}
use Rattle.rules.specs.Sets.{pages_in}
use Rattle.rules.specs.State.{State}
use Rattle.store.specs.declared.report.Report.{Report}
use Rattle.store.specs.Calls.{state_after}
use Rattle.worklist.specs.declared.step.Step.{Step}
use Rattle.worklist.specs.Answers.{kind_of, answered}
use Rattle.worklist.specs.Runs.{area_then, block_bytes}

-- counts that have room in an answer
pub record Small (r : Report) : Type 0 where
  pub erases : r.erases < 256
  pub compactions : r.compactions < 128
  pub merges : r.merges < 128

-- what a call adds to G and to M
abbrev pub large_by : Option State → Call → Answer → ℕ
large_by None c a = 0
large_by (Some s) c a = cond (accepted a) (large_in s.plan.threshold s.pages c) 0

abbrev pub small_by : Option State → Call → Answer → ℕ
small_by None c a = 0
small_by (Some s) c a = cond (accepted a) (small_in s.plan.threshold s.pages c) 0

-- an accepted group, counted by the way that it went: a large group, or the pages of a small one
abbrev pub group_counts : ℕ → ℕ → ℕ × ℕ
group_counts way set = (cond (way == 2) 1 0, cond (way == 2) 0 (pages_in 64 set))

-- a group that is refused counts nowhere
abbrev pub counts_of : Answer → ℕ → ℕ × ℕ
counts_of (refused n) set = (0, 0)
counts_of (done r) set = group_counts r.way set

-- what is written, at the front of the answers, and counted for a call and its answer: the state, the answers and the work area go from what they were to what they are
pub record Told (c : Call) (a : Answer) (s s' : Option State) (was_answers is_answers was_area is_area : List ℕ) (r : Step) : Type 0 where
  pub written : r.written ≡ length (answered (kind_of c) a)
  pub answers : is_answers ≡ answered (kind_of c) a ++ drop r.written was_answers
  pub area : is_area ≡ area_then c (accepted a) (block_bytes s) was_area
  pub erases : r.erases ≡ erases_told a
  pub large : r.large ≡ large_by s c a
  pub small : r.small ≡ small_by s c a
  pub leaves : s' ≡ state_after s c
  pub few_erases : r.erases ≤ 128
  pub few_large : r.large ≤ 1
  pub few_small : r.small ≤ 64
