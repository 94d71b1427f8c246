-- How the blocks of a chip lie in its memory: one after the other, each a header of so many bytes and then its pages.
use Rattle.std.specs.Prelude.{ℕ, ◌+◌, ◌*◌, cond, List, take, drop, Some, None, Option, nat_le}
use Rattle.flash.specs.declared.geometry.Geometry.{Geometry}
use Rattle.flash.specs.declared.making.MakingFault.{MakingFault}
use Rattle.flash.specs.declared.making.MakingFault.TheVariants.{OutOfLimits, MemoryShort}
use Rattle.flash.specs.Limits.{within_limits}

-- the bytes of a block's pages
abbrev pub pages_length : Geometry → ℕ
pages_length g = g.pages * g.size

-- the bytes of a block with a header of so many bytes
abbrev pub span : ℕ → Geometry → ℕ
span header g = header + pages_length g

-- the bytes of all blocks
abbrev pub all_spans : ℕ → Geometry → ℕ
all_spans header g = g.blocks * span header g

-- where a block begins
abbrev pub span_start : ℕ → Geometry → ℕ → ℕ
span_start header g b = b * span header g

-- where a page of a block begins
abbrev pub page_place : ℕ → Geometry → ℕ → ℕ → ℕ
page_place header g b p = span_start header g b + header + p * g.size

-- the bytes of a page in a memory
abbrev pub page_in : ℕ → Geometry → List ℕ → ℕ → ℕ → List ℕ
page_in header g m b p = take g.size (drop (page_place header g b p) m)

-- tests that the measures are within their limits, and that so many bytes hold all blocks
abbrev pub fitting_fault : ℕ → Geometry → ℕ → Option MakingFault
fitting_fault header g available =
    cond (within_limits g) (cond (nat_le (all_spans header g) available) None (Some MemoryShort)) (Some OutOfLimits)
