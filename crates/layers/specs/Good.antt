-- What a flash without its bad blocks means: one flash of the good blocks, in the same order.
use Rattle.std.specs.Prelude.{ℕ, Bool, false, cond, not, ◌||◌, List, [], ◌∷◌, map, length, Some, None, filter, Option, ◌==◌, nat_lt, slice_index, slice_index_or}
use Rattle.std.specs.List.{range_with_len}
use Rattle.flash.specs.declared.block.PhysicalBlock.{PhysicalBlock}
use Rattle.flash.specs.Meaning.{Card, block_at, block_count}

-- whether block b is among the given ones
abbrev pub among : List PhysicalBlock → ℕ → Bool
among [] b = false
among (block ∷ rest) b = block.0 == b || among rest b

-- for each block that a flash can have, whether it is among the bad ones
unfoldable pub bad_table : List PhysicalBlock → List Bool
bad_table bad = map (among bad) (range_with_len 0 256)

-- the numbers below n that are not marked, in order
abbrev pub good_numbers : List Bool → ℕ → List ℕ
good_numbers table n = filter (λ b. not (slice_index_or table b false)) (range_with_len 0 n)

-- the number below of good block k, of n blocks, if there are so many good ones
abbrev pub good_block : List Bool → ℕ → ℕ → Option PhysicalBlock
good_block table n k =
    cond (nat_lt k (length (good_numbers table n))) (Some (record { 0 = slice_index (good_numbers table n) k })) None

-- what a flash means without the blocks that are marked
unfoldable pub good_card : List Bool → Card → Card
good_card table c = record { shape = c.shape; blocks = map (block_at c) (good_numbers table (block_count c)) }
