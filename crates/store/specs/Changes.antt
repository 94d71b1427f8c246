-- What changes of the maps alone make of a state: the card stays as it is.
use Rattle.std.specs.Prelude.{ℕ, List, slice_set}
use Rattle.rules.specs.State.{State, Slot}
use Rattle.rules.specs.Moves.{retired, of_block}

-- the state with other maps
abbrev pub with_maps : State → List ℕ → List (List Slot) → ℕ → State
with_maps s sets table reserve = record { plan = s.plan; pages = s.pages; card = s.card; sets = sets; table = table; reserve = reserve }

-- no slot of block d is live any more
abbrev pub retired_in : State → ℕ → State
retired_in s d = with_maps s s.sets (retired (of_block d) s.table) s.reserve

-- the same, and the pages of block d are those of the set g
abbrev pub renewed_in : State → ℕ → ℕ → State
renewed_in s d g = with_maps s (slice_set s.sets d g) (retired (of_block d) s.table) s.reserve
