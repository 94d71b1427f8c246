-- How the store's tables are read as the rules' maps.
use Rattle.std.specs.Prelude.{ℕ, List, map, take}
use Rattle.flash.specs.Meaning.{Card}
use Rattle.rules.specs.declared.plan.Plan.{Plan}
use Rattle.rules.specs.declared.pages.PageSet.{PageSet}
use Rattle.rules.specs.State as rules
use Rattle.rules.specs.State.{live, dead}
use Rattle.store.specs.declared.slot.Slot.{Slot}
use Rattle.store.specs.declared.slot.Slot.TheVariants.{Live, Dead}
use Rattle.store.specs.declared.slot.RegionBlock.{RegionBlock}

-- a slot, as the rules have it
abbrev pub slot_of : Slot → rules.Slot
slot_of (Live d i) = live d.0 i
slot_of Dead = dead

-- the programmed slots of a block, in order
abbrev pub slots_of : RegionBlock → List rules.Slot
slots_of k = map slot_of (take k.used k.slots)

-- the page map: the blocks of the region
abbrev pub table_of : Plan → List RegionBlock → List (List rules.Slot)
table_of p table = map slots_of (take p.region table)

-- the block map: the sets of the data blocks
abbrev pub sets_of : Plan → List PageSet → List ℕ
sets_of p sets = map (λ (s : PageSet). s.0) (take p.data sets)

-- the state of a store with these maps, over a card
abbrev pub state_with : Plan → ℕ → List PageSet → List RegionBlock → ℕ → Card → rules.State
state_with p pages sets table reserve c =
    record { plan = p; pages = pages; card = c; sets = sets_of p sets; table = table_of p table; reserve = reserve }
