-- What it takes to store pages in the page-mapped region.
use Rattle.std.specs.Prelude.{◌≡◌, ℕ, ◌*◌, ◌<◌, ◌≤◌, true}
use Rattle.rules.specs.Ready.{Ready}
use Rattle.rules.specs.Sets.{has, pages_in}
use Rattle.rules.specs.State.{State, free_of, places}
use Rattle.rules.proofs.OpenBlock.{OpenIn}

-- page i of block d, of n bytes, which is held nowhere, can be stored in an open block
pub record CanStore (s : State) (d i n : ℕ) : Type 0 where
  pub ready : Ready s
  pub inside : d < s.plan.data
  pub a_page : i < s.pages
  pub bytes : n ≡ s.card.shape.size
  pub absent : places s d i ≡ 0
  pub open_block : (r : ℕ) × OpenIn s r

-- the pages of a group of n bytes, which are held nowhere, can be stored
pub record CanAppend (s : State) (d set n : ℕ) : Type 0 where
  pub ready : Ready s
  pub inside : d < s.plan.data
  pub bytes : n ≡ pages_in s.pages set * s.card.shape.size
  pub room : pages_in s.pages set ≤ free_of s
  pub absent : (i : ℕ) → has set i ≡ true → places s d i ≡ 0
