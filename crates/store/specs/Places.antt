-- Places in the maps, as the code names them and as the rules do.
use Rattle.std.specs.Prelude.{ℕ, ◌+◌, ◌-◌, ◌<◌, ◌≤◌, List, [], length, Some, None, Option, slice_index_or}
use Rattle.flash.specs.declared.block.PhysicalBlock.{PhysicalBlock}
use Rattle.rules.specs.declared.block.LogicalBlock.{LogicalBlock}
use Rattle.rules.specs.declared.plan.Plan.{Plan}
use Rattle.store.specs.declared.region.Region.{Region}
use Rattle.store.specs.declared.region.Region.TheVariants.{PageMapped, BlockMapped}
use Rattle.store.specs.declared.slot.RegionBlock.{RegionBlock}
use Rattle.store.specs.View.{table_of}

-- the number of a region, as an answer tells it
abbrev pub way_of : Region → ℕ
way_of PageMapped = 1
way_of BlockMapped = 2

-- a place: the region, the flash block and its page
abbrev pub Place : Type 0
Place = Region × PhysicalBlock × ℕ

-- a place as the rules tell it
abbrev pub place_of : Place → ℕ × ℕ × ℕ
place_of p = (way_of p.0, p.1.0, p.2)

-- the same of a place that may not be there
abbrev pub found_as : Option Place → Option (ℕ × ℕ × ℕ)
found_as None = None
found_as (Some p) = Some (place_of p)

-- flash page i of block b is one of a data block, or a used slot of the page-mapped region
abbrev pub Inside : Region → ℕ → ℕ → Plan → ℕ → List RegionBlock → Type 0
Inside PageMapped b i p pages table = (p.data ≤ b) × (b < p.data + p.region) × (i < length (slice_index_or (table_of p table) (b - p.data) []))
Inside BlockMapped b i p pages table = (b < p.data) × (i < pages)

-- a place that is there is one of the maps
abbrev pub Found : Option Place → Plan → ℕ → List RegionBlock → Type 0
Found None p pages table = Unit {0}
Found (Some x) p pages table = Inside x.0 x.1.0 x.2 p pages table

-- the number of a logical block that may not be there
abbrev pub block_in : Option LogicalBlock → Option ℕ
block_in None = None
block_in (Some d) = Some d.0
