-- What the maps keep by themselves, and what ties them to the flash.
use Rattle.std.specs.Prelude.{◌≡◌, ℕ, ◌+◌, ◌^◌, ◌<◌, ◌≤◌, cond, List, [], length, sum_by, count_by, slice_index, slice_index_or}
use Rattle.std.specs.List.{All}
use Rattle.flash.specs.Meaning.{block_count, floor_at, Sound}
use Rattle.rules.specs.declared.plan.Plan.{Plan}
use Rattle.rules.specs.Sets.{has}
use Rattle.rules.specs.State.{Slot, live, dead, State, is_at}

-- a live slot is a page of the plan: below l blocks of n pages
abbrev pub Within : ℕ → ℕ → Slot → Type 0
Within l n (live d i) = (d < l) × (i < n)
Within l n dead = Unit {0}

-- a block of the page-mapped region holds at most n slots, of pages of the plan
pub record Filed (l n : ℕ) (xs : List Slot) : Type 0 where
  pub within : All (Within l n) xs
  pub short : length xs ≤ n

-- maps that name only pages of the plan, and each at most once
pub record Orderly (p : Plan) (pages : ℕ) (sets : List ℕ) (table : List (List Slot)) (reserve : ℕ) : Type 0 where
  pub sets_are : length sets ≡ p.data
  pub sets_fit : All (λ g. g < 2 ^ pages) sets
  pub rows : length table ≡ p.region
  pub filed : All (Filed p.data pages) table
  pub reserve_in : reserve < p.region
  pub reserve_empty : slice_index_or table reserve [] ≡ []
  pub once : (d i : ℕ) → cond (has (slice_index sets d) i) 1 0 + sum_by (count_by (is_at d i)) table ≤ 1

-- a flash that has room for the plan, and whose floors in the page-mapped region are the programmed slots
pub record Agrees (s : State) : Type 0 where
  pub pages_are : s.pages ≡ s.card.shape.pages
  pub inside : s.plan.data + s.plan.region ≤ block_count s.card
  pub floors : (r : ℕ) → r < s.plan.region → floor_at s.card (s.plan.data + r) ≡ length (slice_index_or s.table r [])

-- a state in which every call can be carried out
pub record Ready (s : State) : Type 0 where
  pub some_data : 1 ≤ s.plan.data
  pub two_blocks : 2 ≤ s.plan.region
  pub orderly : Orderly s.plan s.pages s.sets s.table s.reserve
  pub agrees : Agrees s
  pub sound : Sound s.card
