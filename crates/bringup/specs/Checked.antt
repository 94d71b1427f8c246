-- What a bring-up check leaves on a flash, and what it tells.
use Rattle.std.specs.Prelude.{ℕ, zero, suc, ◌+◌, ◌<◌, cond, List, nat_lt, slice_set}
use Rattle.flash.specs.Meaning.{Card, floor_at, erase_count_at, programmed, erased}
use Rattle.bringup.specs.declared.report.BlockOutcome.{BlockOutcome}
use Rattle.bringup.specs.declared.report.BlockOutcome.TheVariants.{Worn, Programmed, ErasedFirst}
use Rattle.bringup.specs.declared.report.Summary.{Summary}
use Rattle.bringup.specs.Pattern.{pattern}

-- the pages below n of a block hold their patterns
unfoldable pub patterned : Card → ℕ → ℕ → Card
patterned c b zero = c
patterned c b (suc n) = programmed (patterned c b n) b n (pattern b n c.shape.size)

-- what is to be done with a block: nothing if it needs an erase and may have none
abbrev pub outcome_of : Card → ℕ → BlockOutcome
outcome_of c b =
    cond (nat_lt 0 (floor_at c b)) (cond (nat_lt (erase_count_at c b) c.shape.endurance) ErasedFirst Worn) Programmed

-- the card after one block was checked with this outcome
abbrev pub checked_as : BlockOutcome → Card → ℕ → Card
checked_as Worn c b = c
checked_as Programmed c b = patterned c b c.shape.pages
checked_as ErasedFirst c b = patterned (erased c b) b c.shape.pages

-- the card after the blocks below n were checked, in ascending order
unfoldable pub checked_below : ℕ → Card → Card
checked_below zero c = c
checked_below (suc n) c = checked_as (outcome_of (checked_below n c) n) (checked_below n c) n

-- the outcomes of the blocks below n, noted in a table
unfoldable pub noted_below : ℕ → Card → List BlockOutcome → List BlockOutcome
noted_below zero c table = table
noted_below (suc n) c table = slice_set (noted_below n c table) n (outcome_of (checked_below n c) n)

-- one more block of so many pages, of which some read back otherwise
abbrev pub added_as : BlockOutcome → ℕ → ℕ → Summary → Summary
added_as Worn pages wrong s =
    record { blocks = s.blocks + 1; worn = s.worn + 1; erased = s.erased; programmed = s.programmed; mismatched = s.mismatched + wrong }
added_as Programmed pages wrong s =
    record { blocks = s.blocks + 1; worn = s.worn; erased = s.erased; programmed = s.programmed + pages; mismatched = s.mismatched + wrong }
added_as ErasedFirst pages wrong s =
    record { blocks = s.blocks + 1; worn = s.worn; erased = s.erased + 1; programmed = s.programmed + pages; mismatched = s.mismatched + wrong }

-- the summary of the blocks below n: on no flash does a page read back otherwise than it was programmed
unfoldable pub summary_below : ℕ → Card → Summary
summary_below zero c = record { blocks = 0; worn = 0; erased = 0; programmed = 0; mismatched = 0 }
summary_below (suc n) c = added_as (outcome_of (checked_below n c) n) c.shape.pages 0 (summary_below n c)

-- a summary that has room for one more block
pub record Small (s : Summary) : Type 0 where
  pub blocks_low : s.blocks < 65535
  pub worn_low : s.worn < 65535
  pub erased_low : s.erased < 65535
  pub programmed_low : s.programmed < 65536
  pub mismatched_low : s.mismatched < 65536
