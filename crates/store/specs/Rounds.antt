-- What rounds of garbage collection ask, and how the code counts them.
use Rattle.std.specs.Prelude.{◌≡◌, ℕ, ◌+◌, ◌*◌, ◌<◌, ◌≤◌, false, List}
use Rattle.rules.specs.Calls.{near_worn, watched}
use Rattle.rules.specs.Moves.{Round, Work, erases_in, compactions_in, merges_in}
use Rattle.rules.specs.Ready.{Ready}
use Rattle.rules.specs.State.{State, capacity}
use Rattle.rules.proofs.Accepted.{CanFlush}
use Rattle.store.specs.declared.tally.Tally.{Tally}

-- the counts of a list of rounds
abbrev pub tally_of : List Round → Tally
tally_of rs = record { erases = erases_in rs; compactions = compactions_in rs; merges = merges_in rs }

-- what two tallies count together
abbrev pub tally_sum : Tally → Tally → Tally
tally_sum a b = record { erases = a.erases + b.erases; compactions = a.compactions + b.compactions; merges = a.merges + b.merges }

-- rounds that were made: the tally counts them, and the state is the one to which they lead
pub record Made (tally : Tally) (is : State) (work : Work) : Type 0 where
  pub counted : tally ≡ tally_of work.rounds
  pub state : is ≡ work.state

-- a work area of so many bytes holds the pages of a block
abbrev pub Roomy : State → ℕ → Type 0
Roomy s area = s.pages * s.card.shape.size ≤ area

-- rounds can be made until n slots are free, by way of a work area
pub record CanMakeRoom (s : State) (n area : ℕ) : Type 0 where
  pub ready : Ready s
  pub lasts : near_worn (watched s) s.card ≡ false
  pub few : n ≤ s.pages
  pub area_long : Roomy s area

-- a group of so many bytes can be placed, by way of a work area
pub record CanPlace (s : State) (d set bytes area : ℕ) : Type 0 where
  pub ready : Ready s
  pub flushable : CanFlush s d set bytes area

-- an idle round can be made, by way of a work area
pub record CanRest (s : State) (area : ℕ) : Type 0 where
  pub ready : Ready s
  pub lasts : near_worn (watched s) s.card ≡ false
  pub low : s.plan.idle < capacity s.plan s.pages
  pub area_long : Roomy s area
