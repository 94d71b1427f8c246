-- What the calls of a store promise: as the rules have it for a formatted store, and number 6 for any other.
use Rattle.std.specs.Prelude.{◌≡◌, ℕ, zero, suc, ◌+◌, ◌*◌, Bool, true, cond, ◌&&◌, List, [], ◌++◌, length, drop, replicate, Some, None, Ok, Err, Option, Result, ◌==◌, nat_le, nat_lt, slice_index_or}
use Rattle.flash.specs.Meaning.{Card, block_count, floor_at}
use Rattle.rules.specs.declared.plan.Plan.{Plan}
use Rattle.rules.specs.Ready.{Ready}
use Rattle.rules.specs.State.{State, held, live_of, dead_of, free_of}
use Rattle.rules.specs.Calls.{Call, read, Report, Answer, refused, done, told, Few, step, when_bad, format_number, clearing_below, formatted}
use Rattle.rules.proofs.Steps.{number_for}
use Rattle.store.specs.declared.maps.Maps.{Maps}
use Rattle.store.specs.declared.refusal.StoreRefusal.{StoreRefusal}
use Rattle.store.specs.declared.region.Region.{Region}
use Rattle.store.specs.declared.report.Report.{Report as Told}
use Rattle.store.specs.declared.slots.SlotCounts.{SlotCounts}
use Rattle.store.specs.Numbers.{number_of}
use Rattle.store.specs.Places.{way_of}
use Rattle.store.specs.State.{state_of}

-- ---- the state of a store

-- in the first n blocks of the page-mapped region, the flash's floors are the programmed slots
unfoldable pub floors_agree : State → ℕ → Bool
floors_agree s zero = true
floors_agree s (suc n) = floors_agree s n && floor_at s.card (s.plan.data + n) == length (slice_index_or s.table n [])

-- whether the flash is as the maps say
unfoldable pub agreeing : State → Bool
agreeing s =
    (s.pages == s.card.shape.pages) && nat_le (s.plan.data + s.plan.region) (block_count s.card) && floors_agree s s.plan.region

-- the state of a store that is formatted and whose flash is as its maps say; any other has none
abbrev pub state_in : Option Maps → Card → Option State
state_in None c = None
state_in (Some m) c = cond (agreeing (state_of m c)) (Some (state_of m c)) None

-- s is the state of a store, and every call can be carried out
pub record InForce (o : Option State) (s : State) : Type 0 where
  pub is : o ≡ Some s
  pub ready : Ready s

-- ---- calls

-- what a call answers
abbrev pub answer_in : Option State → Call → Answer
answer_in None call = refused 6
answer_in (Some s) call = (step s call).0

-- the state that a call leaves
abbrev pub state_after : Option State → Call → Option State
state_after None call = None
state_after (Some s) call = Some (step s call).1

-- the number with which a call is refused, 0 if it is not
abbrev pub number_in : Option State → Call → ℕ
number_in None call = 6
number_in (Some s) call = number_for s call

-- a call is accepted in state s
pub record Accepted (o : Option State) (call : Call) (s : State) : Type 0 where
  pub in_force : InForce o s
  pub passed : number_for s call ≡ 0

-- the tests of a call: all are passed, or the first that fails tells its number
abbrev pub CheckedAs : {T : Type 0} → Result T StoreRefusal → Option State → Call → Type 0
CheckedAs (Ok x) o call = (s : State) × Accepted o call s
CheckedAs (Err e) o call = number_in o call ≡ number_of e

-- the number with which a call is refused for its block, 0 if it is not
abbrev pub block_number : Option State → ℕ → ℕ
block_number None d = 6
block_number (Some s) d = when_bad (nat_le s.plan.data d) 7 0

-- the same for its block and its page
abbrev pub page_number : Option State → ℕ → ℕ → ℕ
page_number None d i = 6
page_number (Some s) d i = when_bad (nat_le s.plan.data d) 7 (when_bad (nat_le s.pages i) 8 0)

-- a report, as the rules have it
abbrev pub way_in : Option Region → ℕ
way_in None = 0
way_in (Some region) = way_of region

abbrev pub report_of : Told → Report
report_of r = record { way = way_in r.way; erases = r.erases; compactions = r.compactions; merges = r.merges; bytes = [] }

-- a call is carried out and tells its report, or is refused
abbrev pub AnsweredAs : Result Told StoreRefusal → Option State → Call → Type 0
AnsweredAs (Ok r) s call = answer_in s call ≡ done (report_of r)
AnsweredAs (Err e) s call = answer_in s call ≡ refused (number_of e)

-- an accepted flush of n pages makes few rounds
abbrev pub FewAs : Result Told StoreRefusal → ℕ → Type 0
FewAs (Ok r) n = Few n (done (report_of r))
FewAs (Err e) n = Unit {0}

-- what a call means was done: the report tells it, and the state is the one that it leaves
pub record CarriedOut (r : Told) (is : State) (meant : Answer × State) : Type 0 where
  pub tells : done (report_of r) ≡ meant.0
  pub leaves : is ≡ meant.1

-- a call that has nothing to tell is carried out or refused
abbrev pub DoneAs : {T : Type 0} → Result T StoreRefusal → Option State → Call → Type 0
DoneAs (Ok u) s call = answer_in s call ≡ told 0 []
DoneAs (Err e) s call = answer_in s call ≡ refused (number_of e)

-- a work area after a call: its first n bytes are zero, or all is as it was where the call is refused
abbrev pub area_after : {T : Type 0} → Result T StoreRefusal → ℕ → List ℕ → List ℕ
area_after (Ok x) n area = replicate n 0 ++ drop n area
area_after (Err e) n area = area

-- the bytes of a block's pages
abbrev pub block_bytes : Card → ℕ
block_bytes c = c.shape.pages * c.shape.size

-- how many slots are live, dead and free; none of a store that is not formatted
abbrev pub slots_in : Option State → SlotCounts
slots_in None = record { live = 0; dead = 0; free = 0 }
slots_in (Some s) = record { live = live_of s; dead = dead_of s; free = free_of s }

-- where a page is held; a page outside the plan nowhere
abbrev pub held_in : Option State → ℕ → ℕ → Option (ℕ × ℕ × ℕ)
held_in None d i = None
held_in (Some s) d i = cond (nat_lt d s.plan.data && nat_lt i s.pages) (held s d i) None

-- the plan of a formatted store
abbrev pub plan_in : Option State → Option Plan
plan_in None = None
plan_in (Some s) = Some s.plan

-- a read gives the page and tells where it was held, or is refused and leaves the buffer
abbrev pub ReadAs : Result Region StoreRefusal → Option State → ℕ → ℕ → List ℕ → List ℕ → Type 0
ReadAs (Ok region) s d i was is =
    answer_in s (read d i (length was)) ≡ done (record { way = way_of region; erases = 0; compactions = 0; merges = 0; bytes = is })
ReadAs (Err e) s d i was is = (answer_in s (read d i (length was)) ≡ refused (number_of e)) × (is ≡ was)

-- what holds once a call is carried out
abbrev pub Once : {T : Type 0} → Result T StoreRefusal → Type 0 → Type 0
Once (Ok x) promise = promise
Once (Err e) promise = Unit {0}

-- ---- format

-- what format answers: the erases it took, or the number with which it is refused
abbrev pub FormatAs : Result ℕ StoreRefusal → Plan → Card → Type 0
FormatAs (Ok erases) p c = (format_number p c ≡ 0) × (erases ≡ clearing_below (p.data + p.region) c)
FormatAs (Err e) p c = format_number p c ≡ number_of e

-- the state that format leaves
abbrev pub state_formatted : Result ℕ StoreRefusal → Plan → Card → Option State → Option State
state_formatted (Ok erases) p c was = Some (formatted p c)
state_formatted (Err e) p c was = was
