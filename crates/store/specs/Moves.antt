-- What the moves of pages ask of the flash and of their buffers.
use Rattle.std.specs.Prelude.{◌≡◌, ℕ, ◌+◌, ◌*◌, ◌^◌, ◌<◌, ◌≤◌, Bool, true, false, cond, ◌≢◌, List, take, drop, Some, None, Option}
use Rattle.flash.specs.Meaning.{Card, block_count, floor_at, erase_count_at, Sound}
use Rattle.rules.specs.Sets.{has, pages_in}
use Rattle.rules.specs.State.{State}
use Rattle.rules.specs.Moves.{Row}
use Rattle.rules.specs.Ready.{Ready}

-- the first slots of block `from` can be copied to the blank block `to` by way of n bytes
pub record CanCopy (c : Card) (slots from to n : ℕ) : Type 0 where
  pub sound : Sound c
  pub from_in : from < block_count c
  pub to_in : to < block_count c
  pub blank : floor_at c to ≡ 0
  pub short : slots ≤ c.shape.pages
  pub bytes : n ≡ c.shape.size

-- block v of the page-mapped region can be compacted by way of n bytes
pub record CanCollect (s : State) (v n : ℕ) : Type 0 where
  pub ready : Ready s
  pub inside : v < s.plan.region
  pub apart : v ≢ s.reserve
  pub lasts : erase_count_at s.card (s.plan.data + v) < s.card.shape.endurance
  pub bytes : n ≡ s.card.shape.size

-- block b can be erased if need be, and pages programmed into it from an area of n bytes
pub record CanFill (c : Card) (b n : ℕ) : Type 0 where
  pub sound : Sound c
  pub inside : b < block_count c
  pub lasts : erase_count_at c b < c.shape.endurance
  pub area : c.shape.pages * c.shape.size ≤ n

-- the pages of a set as they lie in an area, page i from i × size on
abbrev pub row_in : ℕ → ℕ → List ℕ → Row
row_in set size area i = cond (has set i) (Some (take size (drop (i * size) area))) None

-- ---- the new contents of a data block

-- a page that may not be there
abbrev pub page_if : Bool → List ℕ → Option (List ℕ)
page_if there x = cond there (Some x) None

-- page i of block d can be fetched into n bytes: from the group if its set has the page, whose bytes come first among the `rest`
pub record CanFetch (s : State) (d i set rest n : ℕ) : Type 0 where
  pub ready : Ready s
  pub inside : d < s.plan.data
  pub page_within : i < s.pages
  pub bytes : n ≡ s.card.shape.size
  pub own : has set i ≡ true → n ≤ rest

-- data block d can be written anew with the pages of a group of so many bytes and the others that are held, by way of an area of n bytes
pub record CanRewrite (s : State) (d set bytes n : ℕ) : Type 0 where
  pub ready : Ready s
  pub inside : d < s.plan.data
  pub fits : set < 2 ^ s.pages
  pub group : bytes ≡ pages_in s.pages set * s.card.shape.size
  pub area_long : s.pages * s.card.shape.size ≤ n
  pub lasts : erase_count_at s.card d < s.card.shape.endurance

-- the pages below n of a row lie in an area, and a set has just those
pub record Laid (row : Row) (set size : ℕ) (area : List ℕ) (n : ℕ) : Type 0 where
  pub rows : (i : ℕ) → i < n → row_in set size area i ≡ row i
  pub none_above : (i : ℕ) → n ≤ i → has set i ≡ false
