-- How pages move: compaction, merge, appending, and pages that are held no more.
use Rattle.std.specs.Prelude.{ℕ, zero, suc, ◌+◌, Bool, true, false, cond, not, ◌&&◌, List, [], ◌∷◌, ◌++◌, map, length, is_some, Some, None, sum_by, Option, ◌==◌, nat_lt, slice_index, slice_index_or, slice_set}
use Rattle.std.specs.List.{range_with_len}
use Rattle.flash.specs.Meaning.{Card, page_at, floor_at, programmed, erased}
use Rattle.rules.specs.Choice.{greatest}
use Rattle.rules.specs.Sets.{has, set_of}
use Rattle.rules.specs.State.{Slot, live, dead, State, deads, dead_of, free_of, share_of, held}

-- the bytes that stand for each page of a block, or nothing
abbrev pub Row : Type 0
Row = ℕ → Option (List ℕ)

-- ---- slots that die

-- a live slot that a test picks becomes dead
unfoldable pub retire : (ℕ → ℕ → Bool) → Slot → Slot
retire picks (live d i) = cond (picks d i) dead (live d i)
retire picks dead = dead

abbrev pub retired : (ℕ → ℕ → Bool) → List (List Slot) → List (List Slot)
retired picks t = map (map (retire picks)) t

-- every page of block d
abbrev pub of_block : ℕ → ℕ → ℕ → Bool
of_block d e j = e == d

-- those pages of block d that a test picks
abbrev pub among : ℕ → (ℕ → Bool) → ℕ → ℕ → Bool
among d picks e j = e == d && picks j

-- the picked pages of block d are held no more
unfoldable pub dropped : State → ℕ → (ℕ → Bool) → State
dropped s d picks =
    record {
      plan = s.plan;
      pages = s.pages;
      card = s.card;
      sets = slice_set s.sets d (set_of s.pages (λ i. has (slice_index s.sets d) i && not (picks i)));
      table = retired (among d picks) s.table;
      reserve = s.reserve;
    }

-- ---- compaction

-- the live slots, in order
unfoldable pub kept : List Slot → List Slot
kept [] = []
kept (live d i ∷ xs) = live d i ∷ kept xs
kept (dead ∷ xs) = kept xs

-- the live pages among slots s and up of block `from` are programmed to the pages t and up of block `to`
unfoldable pub copied : ℕ → ℕ → List Slot → ℕ → ℕ → Card → Card
copied from to [] s t c = c
copied from to (dead ∷ xs) s t c = copied from to xs (s + 1) t c
copied from to (live d i ∷ xs) s t c = copied from to xs (s + 1) (t + 1) (programmed c to t (page_at c from s))

-- the live pages of region block v go to the reserve; v is erased and becomes the reserve
unfoldable pub compacted_at : State → ℕ → State
compacted_at s v =
    let slots = slice_index_or s.table v [] in
    record {
      plan = s.plan;
      pages = s.pages;
      card = erased (copied (s.plan.data + v) (s.plan.data + s.reserve) slots 0 0 s.card) (s.plan.data + v);
      sets = s.sets;
      table = slice_set (slice_set s.table s.reserve (kept slots)) v [];
      reserve = v;
    }

-- ---- a data block written anew

-- the pages below n that a row has are programmed in ascending order, each at its own number
abbrev pub put : Card → ℕ → ℕ → Option (List ℕ) → Card
put c b i None = c
put c b i (Some x) = programmed c b i x

unfoldable pub filled : Card → ℕ → Row → ℕ → Card
filled c b row zero = c
filled c b row (suc n) = put (filled c b row n) b n (row n)

-- page i of block d as the group has it, or else as it is held
unfoldable pub gathered : State → ℕ → Row → Row
gathered s d row i =
    elim (row i) [
      | Some x ↦ Some x
      | None ↦ elim (held s d i) [ None ↦ None | Some p ↦ Some (page_at s.card p.1 p.2) ]
    ]

-- a block is erased only if its floor is above 0
abbrev pub cleared : Card → ℕ → Card
cleared c b = elim (nat_lt 0 (floor_at c b)) [ true ↦ erased c b | false ↦ c ]

-- the erases that this takes
abbrev pub clearing : Card → ℕ → ℕ
clearing c b = cond (nat_lt 0 (floor_at c b)) 1 0

-- data block d holds the group's pages and all others that were held, and no other copy is live
unfoldable pub rewritten : State → ℕ → Row → State
rewritten s d row =
    let new = gathered s d row in
    record {
      plan = s.plan;
      pages = s.pages;
      card = filled (cleared s.card d) d new s.pages;
      sets = slice_set s.sets d (set_of s.pages (λ i. is_some (new i)));
      table = retired (of_block d) s.table;
      reserve = s.reserve;
    }

-- ---- rounds of garbage collection

pub data Kind : Type 0 where
  compaction : Kind
  merge : Kind

-- what is told of one round: its kind, the flash block chosen, that block's dead or live slots, the free slots before, and its erases
pub record Round : Type 0 where
  pub kind : Kind
  pub block : ℕ
  pub count : ℕ
  pub free : ℕ
  pub erases : ℕ

-- the state, and the rounds made so far, in their order
pub record Work : Type 0 where
  pub state : State
  pub rounds : List Round

abbrev pub or_zero : Option ℕ → ℕ
or_zero None = 0
or_zero (Some k) = k

-- the region block with the most dead slots, the lowest on a tie
abbrev pub victim : State → ℕ
victim s = or_zero (greatest deads s.table)

-- the data block with the most live slots in the page-mapped region, the lowest on a tie
abbrev pub fullest : State → ℕ
fullest s = or_zero (greatest (share_of s.table) (range_with_len 0 s.plan.data))

-- a group without pages
abbrev pub no_row : Row
no_row i = None

abbrev pub compaction_of : State → Round
compaction_of s =
    record { kind = compaction; block = s.plan.data + victim s; count = deads (slice_index_or s.table (victim s) []); free = free_of s; erases = 1 }

abbrev pub merge_of : State → Round
merge_of s =
    record { kind = merge; block = fullest s; count = share_of s.table (fullest s); free = free_of s; erases = clearing s.card (fullest s) }

-- a round is a compaction if any slot is dead, and otherwise a merge
abbrev pub round_as : Bool → Work → Work
round_as true w = record { state = compacted_at w.state (victim w.state); rounds = w.rounds ++ (compaction_of w.state ∷ []) }
round_as false w = record { state = rewritten w.state (fullest w.state) no_row; rounds = w.rounds ++ (merge_of w.state ∷ []) }

unfoldable pub round : Work → Work
round w = round_as (nat_lt 0 (dead_of w.state)) w

-- rounds while fewer than n slots are free, at most k of them
abbrev pub more : Bool → (Work → Work) → Work → Work
more true go w = go (round w)
more false go w = w

unfoldable pub rounds_for : ℕ → ℕ → Work → Work
rounds_for zero n w = w
rounds_for (suc k) n w = more (nat_lt (free_of w.state) n) (rounds_for k n) w

abbrev pub at_rest : State → Work
at_rest s = record { state = s; rounds = [] }

-- what rounds add up to
abbrev pub one_compaction : Round → ℕ
one_compaction r = elim r.kind [ compaction ↦ 1 | merge ↦ 0 ]

abbrev pub one_merge : Round → ℕ
one_merge r = elim r.kind [ compaction ↦ 0 | merge ↦ 1 ]

abbrev pub compactions_in : List Round → ℕ
compactions_in rs = sum_by one_compaction rs

abbrev pub merges_in : List Round → ℕ
merges_in rs = sum_by one_merge rs

abbrev pub erases_in : List Round → ℕ
erases_in rs = sum_by (λ r. r.erases) rs

-- the dead slots of the victims, added up
abbrev pub recovered_in : List Round → ℕ
recovered_in rs = sum_by (λ r. elim r.kind [ compaction ↦ r.count | merge ↦ 0 ]) rs

-- ---- pages into the page-mapped region

-- the lowest block, from r on, that is neither the reserve nor full
unfoldable pub open_block : ℕ → ℕ → ℕ → List (List Slot) → Option ℕ
open_block pages reserve r [] = None
open_block pages reserve r (xs ∷ xss) =
    elim (not (r == reserve) && nat_lt (length xs) pages) [ true ↦ Some r | false ↦ open_block pages reserve (r + 1) xss ]

-- page i of block d goes to the next slot of region block r
abbrev pub stored_at : State → ℕ → ℕ → List ℕ → Option ℕ → State
stored_at s d i x None = s
stored_at s d i x (Some r) =
    record {
      plan = s.plan;
      pages = s.pages;
      card = programmed s.card (s.plan.data + r) (length (slice_index_or s.table r [])) x;
      sets = s.sets;
      table = slice_set s.table r (slice_index_or s.table r [] ++ (live d i ∷ []));
      reserve = s.reserve;
    }

abbrev pub stored : State → ℕ → ℕ → Option (List ℕ) → State
stored s d i None = s
stored s d i (Some x) = stored_at s d i x (open_block s.pages s.reserve 0 s.table)

-- the pages below n of a group, in ascending order
unfoldable pub appended : State → ℕ → Row → ℕ → State
appended s d row zero = s
appended s d row (suc n) = stored (appended s d row n) d n (row n)
