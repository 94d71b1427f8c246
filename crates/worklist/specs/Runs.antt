-- What it means to carry out a work list on a store.
use Rattle.std.specs.Prelude.{ℕ, zero, suc, ◌+◌, ◌*◌, Bool, cond, List, [], ◌∷◌, ◌++◌, length, drop, replicate, Some, None, Option, nat_le}
use Rattle.rules.specs.Calls.{Call, flush, read, discard, idle, Answer}
use Rattle.rules.specs.Runs.{Log, accepted, erases_of, large_groups_in, small_pages_in}
use Rattle.rules.specs.State.{State}
use Rattle.store.specs.Calls.{answer_in, state_after}
use Rattle.worklist.specs.declared.ended.Ended.{Ended}
use Rattle.worklist.specs.declared.fault.ListFault.{ListFault}
use Rattle.worklist.specs.declared.fault.ListFault.TheVariants.{NoRoom, TooLong}
use Rattle.worklist.specs.Answers.{kind_of, answered}
use Rattle.worklist.specs.Records.{Item, flush_of, read_of, discard_of, idle_round, Next, taken, stopped, next_at}

-- the call that a record asks for: a read has a buffer of a page, and flushes and idle rounds have a work area of so many bytes
abbrev pub call_for : ℕ → ℕ → Item → Call
call_for size area (flush_of d set bytes) = flush d set bytes area
call_for size area (read_of d i) = read d i size
call_for size area (discard_of d set) = discard d set
call_for size area idle_round = idle area

-- the bytes that the answer to a record may take
abbrev pub room_for : ℕ → Item → ℕ
room_for size (flush_of d set bytes) = 4
room_for size (read_of d i) = 4 + size
room_for size (discard_of d set) = 4
room_for size idle_round = 4

-- the bytes of a block's pages
abbrev pub block_bytes : Option State → ℕ
block_bytes None = 0
block_bytes (Some s) = s.card.shape.pages * s.card.shape.size

-- a work area whose first n bytes were used and set to zero
abbrev pub wiped : Bool → ℕ → List ℕ → List ℕ
wiped used n area = cond used (replicate n 0 ++ drop n area) area

-- a work area after a call: an accepted flush or idle round leaves a block's bytes of it zero
abbrev pub area_then : Call → Bool → ℕ → List ℕ → List ℕ
area_then (flush d set bytes len) used n area = wiped used n area
area_then (read d i len) used n area = area
area_then (discard d set) used n area = area
area_then (idle len) used n area = wiped used n area

-- what has been done so far
pub record Progress : Type 0 where
  -- the state of the store; none if it is not formatted
  pub state : Option State
  -- the calls made, with their answers
  pub log : Log
  -- the bytes of the answers
  pub answers : List ℕ
  -- the work area
  pub area : List ℕ

abbrev pub begun : Option State → List ℕ → Progress
begun s area = record { state = s; log = []; answers = []; area = area }

-- one call more
abbrev pub called : Call → Answer → Progress → Progress
called c a w =
    record {
      state = state_after w.state c;
      log = w.log ++ ((c, a) ∷ []);
      answers = w.answers ++ answered (kind_of c) a;
      area = area_then c (accepted a) (block_bytes w.state) w.area;
    }

-- a record is carried out: the store answers its call, refused or not
abbrev pub carried : ℕ → Item → Progress → Progress
carried size item w =
    let c = call_for size (length w.area) item in
    called c (answer_in w.state c) w

-- how a list ended: for a fault or at its end, at a place
pub record Outcome : Type 0 where
  pub fault : Option ListFault
  pub place : ℕ
  pub done : Progress

abbrev pub ends : Option ListFault → ℕ → Progress → Outcome
ends fault place w = record { fault = fault; place = place; done = w }

-- the next record ends the list, or is carried out if there is room for its answer, and the others follow
abbrev pub onward : (ℕ → Progress → Outcome) → ℕ → ℕ → Next → ℕ → Progress → Outcome
onward rest size room (stopped e) at w = ends e at w
onward rest size room (taken f) at w =
    cond (nat_le (length w.answers + room_for size f.item) room) (rest f.next (carried size f.item w)) (ends (Some NoRoom) at w)

-- at most n records, from the place `at` on, with pages of so many bytes and room for so many bytes of answers
unfoldable pub ran : ℕ → List ℕ → ℕ → ℕ → ℕ → Progress → Outcome
ran zero xs size room at w = ends None at w
ran (suc n) xs size room at w = onward (ran n xs size room) size room (next_at xs at size) at w

-- a whole list, if it is not too long: a record takes two bytes or more, so its length bounds the number of records
abbrev pub run_of : List ℕ → ℕ → ℕ → Option State → List ℕ → Outcome
run_of xs size room s area =
    cond (nat_le (length xs) 16777216) (ran (length xs + 1) xs size room 0 (begun s area)) (ends (Some TooLong) 0 (begun s area))

-- G and M of a log of calls on a store: none of one that is not formatted
abbrev pub large_of : Option State → Log → ℕ
large_of None log = 0
large_of (Some s) log = large_groups_in s.plan.threshold s.pages log

abbrev pub small_of : Option State → Log → ℕ
small_of None log = 0
small_of (Some s) log = small_pages_in s.plan.threshold s.pages log

-- what is told of a run that began in a state
abbrev pub ended_as : Option State → Outcome → Ended
ended_as s o =
    record {
      fault = o.fault;
      place = o.place;
      records = length o.done.log;
      written = length o.done.answers;
      erases = erases_of o.done.log;
      large_groups = large_of s o.done.log;
      small_pages = small_of s o.done.log;
    }

-- the answer buffer after a run: the answers, and behind them what was there
abbrev pub answers_after : Outcome → List ℕ → List ℕ
answers_after o was = o.done.answers ++ drop (length o.done.answers) was
