-- What a plain chip means: its pages lie one after the other in memory, and a table has floors and erase counts.
use Rattle.std.specs.Prelude.{ℕ, ◌+◌, ◌*◌, cond, List, ◌++◌, map, take, drop, replicate, Some, None, Option, nat_le, slice_index_or}
use Rattle.std.specs.List.{range_with_len}
use Rattle.flash.specs.declared.geometry.Geometry.{Geometry}
use Rattle.flash.specs.declared.making.MakingFault.{MakingFault}
use Rattle.flash.specs.declared.making.MakingFault.TheVariants.{OutOfLimits, MemoryShort}
use Rattle.flash.specs.Limits.{within_limits}
use Rattle.flash.specs.Meaning.{Block, Card, blank_card, no_card}
use Rattle.chips.specs.declared.table.Entry.{Entry}

-- the table entry of a block that was never used
abbrev pub unused : Entry
unused = record { floor = 0; erases = 0 }

-- the bytes that all pages take together
abbrev pub plain_length : Geometry → ℕ
plain_length g = g.blocks * g.pages * g.size

-- row k of a memory that is cut into rows of one size
abbrev pub row : ℕ → ℕ → List ℕ → List ℕ
row size k m = take size (drop (k * size) m)

-- page p of block b is row b × pages + p
abbrev pub plain_block : Geometry → List ℕ → List Entry → ℕ → Block
plain_block g m t b =
    record { pages = map (λ p. row g.size (b * g.pages + p) m) (range_with_len 0 g.pages); floor = (slice_index_or t b unused).floor; erases = (slice_index_or t b unused).erases }

unfoldable pub plain_card : Geometry → List ℕ → List Entry → Card
plain_card g m t =
    record { shape = record { pages = g.pages; size = g.size; endurance = g.endurance }; blocks = map (plain_block g m t) (range_with_len 0 g.blocks) }

-- what keeps a chip from being made: measures out of their limits, or too little memory
abbrev pub plain_fault : Geometry → ℕ → Option MakingFault
plain_fault g available =
    cond (within_limits g) (cond (nat_le (plain_length g) available) None (Some MemoryShort)) (Some OutOfLimits)

-- a chip as it is made is blank, or has no blocks where there is a fault
abbrev pub made_card : Option MakingFault → Geometry → Card
made_card None g = blank_card g
made_card (Some fault) g = no_card

-- making fills the pages' bytes with 255 and leaves the rest, or leaves all where there is a fault
abbrev pub made_memory : Option MakingFault → Geometry → List ℕ → List ℕ
made_memory None g m = replicate (plain_length g) 255 ++ drop (plain_length g) m
made_memory (Some fault) g m = m
