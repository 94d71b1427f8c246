-- The limits of a flash's measures.
use Rattle.std.specs.Prelude.{Bool, ◌&&◌, nat_le}
use Rattle.flash.specs.declared.geometry.Geometry.{Geometry}

-- at most 256 blocks, 2 to 64 pages a block, 4 to 4,096 bytes a page, an endurance of 1 to 1,000,000
abbrev pub within_limits : Geometry → Bool
within_limits g =
    nat_le g.blocks 256 && nat_le 2 g.pages && nat_le g.pages 64 && nat_le 4 g.size && nat_le g.size 4096 && nat_le 1 g.endurance && nat_le g.endurance 1000000
