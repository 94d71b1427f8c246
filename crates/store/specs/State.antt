-- The state of a store: its maps over what its flash means.
use Rattle.std.specs.Prelude.{ℕ, ◌-◌, [], replicate}
use Rattle.flash.specs.Meaning.{Card}
use Rattle.rules.specs.declared.plan.Plan.{Plan}
use Rattle.rules.specs.State.{State}
use Rattle.store.specs.declared.maps.Maps.{Maps}
use Rattle.store.specs.View.{state_with}

-- the state of a store with these maps, over a card
abbrev pub state_of : Maps → Card → State
state_of m c = state_with m.plan m.pages m.sets m.table m.reserve c

-- maps without pages, with the last block of the region as the reserve
abbrev pub empty_maps : Plan → ℕ → Card → State
empty_maps p pages c =
    record { plan = p; pages = pages; card = c; sets = replicate p.data 0; table = replicate p.region []; reserve = p.region - 1 }
