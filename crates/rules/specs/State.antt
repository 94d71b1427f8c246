-- The state of a formatted store: its plan, its flash, and the two maps.
use Rattle.std.specs.Prelude.{ℕ, suc, ◌+◌, ◌-◌, ◌*◌, max, Bool, true, false, cond, ◌&&◌, List, [], ◌∷◌, length, Some, None, sum_by, count_by, Option, ◌==◌, nat_le, slice_index}
use Rattle.flash.specs.Meaning.{Card}
use Rattle.rules.specs.declared.plan.Plan.{Plan}
use Rattle.rules.specs.Sets.{has}

-- what a programmed page of the page-mapped region is: the current copy of a logical page (block, page), or dead
pub data Slot : Type 0 where
  live : ℕ → ℕ → Slot
  dead : Slot

pub record State : Type 0 where
  pub plan : Plan
  -- pages a block
  pub pages : ℕ
  -- what the flash means
  pub card : Card
  -- the block map: for each data block the set of its valid pages
  pub sets : List ℕ
  -- the page map: for each block of the page-mapped region its programmed slots, in order
  pub table : List (List Slot)
  -- the block of the page-mapped region that is kept blank
  pub reserve : ℕ

-- ---- sizes

-- C: the slots of the page-mapped region without the reserve
abbrev pub capacity : Plan → ℕ → ℕ
capacity p pages = (p.region - 1) * pages

-- Q: how many live slots there are at the least when a merge is made
abbrev pub quota : Plan → ℕ → ℕ
quota p pages = capacity p pages + 1 - max p.threshold (p.idle + 1)

-- the limits of a plan: 1 to 128 data blocks, 2 to 16 region blocks, a threshold up to P, an idle limit below C
abbrev pub plan_within : Plan → ℕ → Bool
plan_within p pages =
    nat_le 1 p.data && nat_le p.data 128 && nat_le 2 p.region && nat_le p.region 16 && nat_le p.threshold pages && nat_le (p.idle + 1) (capacity p pages)

-- ---- counts of slots

abbrev pub one_live : Slot → ℕ
one_live (live d i) = 1
one_live dead = 0

abbrev pub one_dead : Slot → ℕ
one_dead (live d i) = 0
one_dead dead = 1

-- a live slot of block d
abbrev pub one_of : ℕ → Slot → ℕ
one_of d (live e j) = cond (e == d) 1 0
one_of d dead = 0

abbrev pub lives : List Slot → ℕ
lives xs = sum_by one_live xs

abbrev pub deads : List Slot → ℕ
deads xs = sum_by one_dead xs

abbrev pub live_of : State → ℕ
live_of s = sum_by lives s.table

abbrev pub dead_of : State → ℕ
dead_of s = sum_by deads s.table

-- slots that are not programmed; the reserve's do not count
abbrev pub free_of : State → ℕ
free_of s = capacity s.plan s.pages - sum_by length s.table

-- how many live slots block d has in the page-mapped region
abbrev pub share_of : List (List Slot) → ℕ → ℕ
share_of t d = sum_by (λ xs. sum_by (one_of d) xs) t

-- ---- where a logical page is held

-- whether a slot is page i of block d
unfoldable pub is_at : ℕ → ℕ → Slot → Bool
is_at d i (live e j) = d == e && i == j
is_at d i dead = false

abbrev pub one_on : Option ℕ → Option ℕ
one_on None = None
one_on (Some k) = Some (suc k)

-- the first slot that is page i of block d
unfoldable pub slot_for : ℕ → ℕ → List Slot → Option ℕ
slot_for d i [] = None
slot_for d i (x ∷ xs) = cond (is_at d i x) (Some 0) (one_on (slot_for d i xs))

-- the same over the blocks of the region, of which the first is flash block b: flash block and page
unfoldable pub place_for : ℕ → ℕ → ℕ → List (List Slot) → Option (ℕ × ℕ)
place_for d i b [] = None
place_for d i b (xs ∷ xss) = elim (slot_for d i xs) [ Some k ↦ Some (b, k) | None ↦ place_for d i (b + 1) xss ]

-- where page i of block d is held: the way (2 in its data block, 1 in the page-mapped region), flash block and page
unfoldable pub held : State → ℕ → ℕ → Option (ℕ × ℕ × ℕ)
held s d i =
    elim (has (slice_index s.sets d) i) [
      | true ↦ Some (2, d, i)
      | false ↦ elim (place_for d i s.plan.data s.table) [ Some p ↦ Some (1, p.0, p.1) | None ↦ None ]
    ]

-- how many flash pages the two maps together name for page i of block d
unfoldable pub places : State → ℕ → ℕ → ℕ
places s d i = cond (has (slice_index s.sets d) i) 1 0 + sum_by (count_by (is_at d i)) s.table
