-- The calls of a store: what each answers, and the state that it leaves.
use Rattle.std.specs.Prelude.{ℕ, zero, suc, ◌+◌, ◌-◌, ◌*◌, ◌^◌, ◌≤◌, Bool, true, false, cond, not, List, [], length, take, drop, replicate, is_some, Some, None, Option, ◌==◌, nat_le, nat_lt}
use Rattle.flash.specs.Meaning.{Card, block_count, page_at, erase_count_at}
use Rattle.rules.specs.declared.plan.Plan.{Plan}
use Rattle.rules.specs.Sets.{has, pages_in}
use Rattle.rules.specs.State.{State, plan_within, free_of, held}
use Rattle.rules.specs.Moves.{Row, Round, cleared, clearing, rewritten, round, rounds_for, at_rest, dropped, appended, compactions_in, merges_in, erases_in}

pub data Call : Type 0 where
  -- block, set of pages, their bytes in ascending order, length of the work area
  flush : ℕ → ℕ → List ℕ → ℕ → Call
  -- block, page, length of the buffer
  read : ℕ → ℕ → ℕ → Call
  -- block, set of pages
  discard : ℕ → ℕ → Call
  -- length of the work area
  idle : ℕ → Call

-- what an accepted call tells; the way is 0 none, 1 the page-mapped region, 2 a data block
pub record Report : Type 0 where
  pub way : ℕ
  pub erases : ℕ
  pub compactions : ℕ
  pub merges : ℕ
  -- the bytes that a read gives
  pub bytes : List ℕ

pub data Answer : Type 0 where
  refused : ℕ → Answer
  done : Report → Answer

-- ---- a group

-- the bytes that a group has for page i: the group's pages lie one after the other
abbrev pub row_at : ℕ → ℕ → List ℕ → ℕ → Bool → Option (List ℕ)
row_at size set bytes i true = Some (take size (drop (pages_in i set * size) bytes))
row_at size set bytes i false = None

unfoldable pub row_of : ℕ → ℕ → List ℕ → Row
row_of size set bytes i = row_at size set bytes i (has set i)

-- ---- refusals: the first test that fails gives the number, and 0 is accepted

abbrev pub when_bad : Bool → ℕ → ℕ → ℕ
when_bad bad number later = cond bad number later

-- some block below n is so near to its endurance that a call might be refused an erase in its midst
unfoldable pub near_worn : ℕ → Card → Bool
near_worn zero c = false
near_worn (suc n) c = cond (nat_lt c.shape.endurance (erase_count_at c n + 128)) true (near_worn n c)

-- the blocks whose wear matters to a call: all of the flash
abbrev pub watched : State → ℕ
watched s = block_count s.card

unfoldable pub flush_number : State → ℕ → ℕ → ℕ → ℕ → ℕ
flush_number s d set len area =
    when_bad (nat_le s.plan.data d) 7 (when_bad (nat_le (2 ^ s.pages) set) 8 (when_bad (set == 0) 9
    (when_bad (not (len == (pages_in s.pages set * s.card.shape.size))) 10
    (when_bad (nat_lt area (s.pages * s.card.shape.size)) 11 (when_bad (near_worn (watched s) s.card) 12 0)))))

unfoldable pub read_number : State → ℕ → ℕ → ℕ → ℕ
read_number s d i len =
    when_bad (nat_le s.plan.data d) 7 (when_bad (nat_le s.pages i) 8
    (when_bad (not (len == s.card.shape.size)) 13 (when_bad (not (is_some (held s d i))) 14 0)))

unfoldable pub discard_number : State → ℕ → ℕ → ℕ
discard_number s d set = when_bad (nat_le s.plan.data d) 7 (when_bad (nat_le (2 ^ s.pages) set) 8 (when_bad (set == 0) 9 0))

unfoldable pub idle_number : State → ℕ → ℕ
idle_number s area =
    when_bad (nat_lt area (s.pages * s.card.shape.size)) 11 (when_bad (near_worn (watched s) s.card) 12 0)

unfoldable pub format_number : Plan → Card → ℕ
format_number p c =
    when_bad (not (plan_within p c.shape.pages)) 15 (when_bad (nat_lt (block_count c) (p.data + p.region)) 16
    (when_bad (near_worn (block_count c) c) 12 0))

-- ---- accepted calls

abbrev pub told : ℕ → List Round → Answer
told way rs = done (record { way = way; erases = erases_in rs; compactions = compactions_in rs; merges = merges_in rs; bytes = [] })

-- more pages than the threshold: the data block is written anew
abbrev pub to_data : State → ℕ → Row → Answer × State
to_data s d row = (done (record { way = 2; erases = clearing s.card d; compactions = 0; merges = 0; bytes = [] }), rewritten s d row)

-- else: rounds until there is room, then the older copies die and the pages are appended.
-- (Dead slots keep their places and no append looks at them, so the maps come out the same whether the older copies die just before the appends or after.)
abbrev pub to_region : State → ℕ → ℕ → Row → ℕ → Answer × State
to_region s d set row n =
    let w = rounds_for (2 * n) n (at_rest s) in
    (told 1 w.rounds, appended (dropped w.state d (has set)) d row s.pages)

abbrev pub flushed_as : Bool → State → ℕ → ℕ → Row → ℕ → Answer × State
flushed_as true s d set row n = to_data s d row
flushed_as false s d set row n = to_region s d set row n

unfoldable pub flushed : State → ℕ → ℕ → Row → Answer × State
flushed s d set row =
    let n = pages_in s.pages set in
    flushed_as (nat_lt s.plan.threshold n) s d set row n

-- what holds of a flush of n pages: at most n compactions, no more merges than compactions, and at most 128 erases
abbrev pub Few : ℕ → Answer → Type 0
Few n (refused k) = Unit {0}
Few n (done r) = (r.compactions ≤ n) × (r.merges ≤ r.compactions) × (r.erases ≤ 128)

-- one round if at most as many slots are free as the plan's idle limit
abbrev pub rested_as : Bool → State → Answer × State
rested_as true s = (told 0 (round (at_rest s)).rounds, (round (at_rest s)).state)
rested_as false s = (told 0 [], s)

unfoldable pub rested : State → Answer × State
rested s = rested_as (nat_le (free_of s) s.plan.idle) s

abbrev pub gives : Card → Option (ℕ × ℕ × ℕ) → Answer
gives c None = refused 14
gives c (Some p) = done (record { way = p.0; erases = 0; compactions = 0; merges = 0; bytes = page_at c p.1 p.2 })

-- a refusal changes nothing
abbrev pub unless : ℕ → State → Answer × State → Answer × State
unless zero s r = r
unless (suc n) s r = (refused (suc n), s)

-- one call: its answer, and the state after it
unfoldable pub step : State → Call → Answer × State
step s (flush d set bytes area) =
    unless (flush_number s d set (length bytes) area) s (flushed s d set (row_of s.card.shape.size set bytes))
step s (read d i len) = unless (read_number s d i len) s (gives s.card (held s d i), s)
step s (discard d set) = unless (discard_number s d set) s (told 0 [], dropped s d (has set))
step s (idle area) = unless (idle_number s area) s (rested s)

-- ---- format

-- the blocks below n are erased, each if its floor is above 0
unfoldable pub cleared_below : ℕ → Card → Card
cleared_below zero c = c
cleared_below (suc n) c = cleared (cleared_below n c) n

-- the erases that this takes
unfoldable pub clearing_below : ℕ → Card → ℕ
clearing_below zero c = 0
clearing_below (suc n) c = clearing_below n c + clearing c n

-- the state that an accepted format leaves: the plan's blocks blank, the maps empty, the last region block the reserve
unfoldable pub formatted : Plan → Card → State
formatted p c =
    record {
      plan = p;
      pages = c.shape.pages;
      card = cleared_below (p.data + p.region) c;
      sets = replicate p.data 0;
      table = replicate p.region [];
      reserve = p.region - 1;
    }
