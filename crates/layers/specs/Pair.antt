-- What two flashes side by side mean: one flash of twice as many blocks.
use Rattle.std.specs.Prelude.{ℕ, ◌-◌, ◌*◌, ◌/◌, ◌%◌, Bool, cond, ◌&&◌, map, Some, None, Option, ◌==◌, nat_le}
use Rattle.std.specs.List.{range_with_len}
use Rattle.flash.specs.declared.geometry.Geometry.{Geometry}
use Rattle.flash.specs.declared.making.MakingFault.{MakingFault}
use Rattle.flash.specs.declared.making.MakingFault.TheVariants.{OutOfLimits}
use Rattle.flash.specs.Meaning.{Block, Card, block_at, block_count, geometry_of, no_card}
use Rattle.layers.specs.declared.pair.Side.{Side}
use Rattle.layers.specs.declared.pair.Side.TheVariants.{Left, Right}

-- 1 to 128 blocks each, and equal in all four measures
abbrev pub matching : Geometry → Geometry → Bool
matching g h =
    nat_le 1 g.blocks && nat_le g.blocks 128 && g.blocks == h.blocks && g.pages == h.pages && g.size == h.size && g.endurance == h.endurance

-- whether two cards fit side by side
abbrev pub fitting : Card → Card → Bool
fitting left right = matching (geometry_of left) (geometry_of right)

-- why two cards do not fit, if they do not
abbrev pub pair_fault : Card → Card → Option MakingFault
pair_fault left right = cond (fitting left right) None (Some OutOfLimits)

-- even block b is block b / 2 of the left flash, odd block b is block (b - 1) / 2 of the right one
abbrev pub side_of : ℕ → Side
side_of b = cond (b % 2 == 0) (Left (record { 0 = b / 2 })) (Right (record { 0 = (b - 1) / 2 }))

-- the side of a block, where the two cards fit
abbrev pub side_in : Card → Card → ℕ → Option Side
side_in left right b = cond (fitting left right) (Some (side_of b)) None

-- the block on a side
abbrev pub block_on : Card → Card → Side → Block
block_on left right (Left k) = block_at left k.0
block_on left right (Right k) = block_at right k.0

-- two cards that fit, side by side
abbrev pub beside : Card → Card → Card
beside left right =
    record { shape = left.shape; blocks = map (λ b. block_on left right (side_of b)) (range_with_len 0 (2 * block_count left)) }

-- what a pair means: two cards that fit side by side, or else the flash without blocks
unfoldable pub pair_card : Card → Card → Card
pair_card left right = cond (fitting left right) (beside left right) no_card
