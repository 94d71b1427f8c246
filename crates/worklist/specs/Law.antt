-- A work list is a run of calls, so that what holds of every run holds of it.
use Rattle.std.specs.Prelude.{◌≡◌, ℕ, ◌≤◌, List, Some, None, Option}
use Rattle.flash.specs.Meaning.{Card, Sound}
use Rattle.rules.specs.declared.plan.Plan.{Plan}
use Rattle.rules.specs.Calls.{format_number, formatted}
use Rattle.rules.specs.Runs.{Ran, ceiling}
use Rattle.rules.specs.State.{State}
use Rattle.worklist.specs.declared.ended.Ended.{Ended}
use Rattle.worklist.specs.Runs.{Progress, Outcome, ended_as, answers_after}

-- the calls were made one after the other from a state on, each was answered as it promises, and they led to the state that is there now
pub record RanFrom (s : State) (w : Progress) : Type 0 where
  pub end : State
  pub state : w.state ≡ Some end
  pub run : Ran s w.log end

-- what was done from a state on is a run; without a state there is none afterwards either
abbrev pub Followed : Option State → Progress → Type 0
Followed None w = w.state ≡ None
Followed (Some s) w = RanFrom s w

-- on a store that an accepted format left, the erases told are at most the ceiling of the groups and pages told
abbrev pub Bounded : Option State → Ended → Type 0
Bounded s r =
    (p : Plan) (c : Card) → Sound c → format_number p c ≡ 0 → s ≡ Some (formatted p c) →
    r.erases ≤ ceiling p c.shape.pages r.large_groups r.small_pages

-- all that a run promises that begins in the state s with the answer buffer ys: what it tells, the state and the buffers then, that it is a run of calls, and that its erases are bounded
pub record RunsAs (s : Option State) (o : Outcome) (ys : List ℕ) (r : Ended) (s' : Option State) (ys' area' : List ℕ) : Type 0 where
  pub tells : r ≡ ended_as s o
  pub leaves : s' ≡ o.done.state
  pub answered : ys' ≡ answers_after o ys
  pub clears : area' ≡ o.done.area
  pub follows : Followed s o.done
  pub bounded : Bounded s r
