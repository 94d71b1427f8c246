-- The refusals that a probe of a flash meets.
use Rattle.std.specs.Prelude.{ℕ, cond, List, [], ◌∷◌, None, Option, nat_lt}
use Rattle.flash.specs.Meaning.{Card, block_count, floor_at, erase_count_at}
use Rattle.flash.specs.Refusals.{erase_refusal, program_refusal, read_refusal}

-- a program of page 0 of block 0, tried only where that is below the floor
abbrev pub below_floor : Card → Option ℕ
below_floor c = cond (nat_lt 0 (floor_at c 0)) (program_refusal c 0 0 c.shape.size) None

-- an erase of block 0, tried only where it has had all of its erases
abbrev pub worn_out : Card → Option ℕ
worn_out c = cond (nat_lt (erase_count_at c 0) c.shape.endurance) None (erase_refusal c 0)

-- an erase past the last block, a read past the last page, a read into no buffer, and the two above
abbrev pub probed : Card → List (Option ℕ)
probed c =
    erase_refusal c (block_count c)
    ∷ read_refusal c 0 c.shape.pages c.shape.size
    ∷ read_refusal c 0 0 0
    ∷ below_floor c
    ∷ worn_out c
    ∷ []
