-- How the records of a work list lie in its bytes.
use Rattle.std.specs.Borrow.{Bor}
use Rattle.std.specs.Prelude.{◌≡◌, ℕ, ◌+◌, ◌-◌, ◌*◌, ◌/◌, ◌%◌, ◌^◌, ◌<◌, Bool, true, cond, ◌&&◌, List, [], ◌∷◌, ◌++◌, length, take, drop, Some, None, Ok, Err, Option, Result, ◌==◌, nat_le, slice_index}
use Rattle.rules.specs.Sets.{pages_in}
use Rattle.worklist.specs.declared.fault.ListFault.{ListFault}
use Rattle.worklist.specs.declared.fault.ListFault.TheVariants.{NotZero, CutShort}
use Rattle.worklist.specs.declared.head.Head.{Head}
use Rattle.worklist.specs.declared.kind.Kind.{Kind}
use Rattle.worklist.specs.declared.kind.Kind.TheVariants.{Flush as Kind-as-Flush, Read as Kind-as-Read, Discard as Kind-as-Discard, Idle as Kind-as-Idle}
use Rattle.worklist.specs.declared.record.Record.{Record}
use Rattle.worklist.specs.declared.record.Record.TheVariants.{Flush, Read, Discard, Idle}
use Rattle.worklist.specs.declared.record.Taken.{Taken}
use Rattle.worklist.specs.Numbers.{kind_for}

-- what a record asks for
pub data Item : Type 0 where
  -- block, set of pages, their bytes in ascending order
  flush_of : ℕ → ℕ → List ℕ → Item
  -- block, page
  read_of : ℕ → ℕ → Item
  -- block, set of pages
  discard_of : ℕ → ℕ → Item
  idle_round : Item

-- ---- the head: two bytes, most significant first, with kind 3 bits, block 7 bits, page 6 bits

abbrev pub word_in : List ℕ → ℕ
word_in xs = slice_index xs 0 * 256 + slice_index xs 1

abbrev pub kind_in : List ℕ → Result Kind ListFault
kind_in xs = kind_for (word_in xs / 8192)

abbrev pub block_in : List ℕ → ℕ
block_in xs = word_in xs / 64 % 128

abbrev pub page_in : List ℕ → ℕ
page_in xs = word_in xs % 64

-- the page is zero but in a read, and the block is zero in an idle round
abbrev pub zeros_in : Kind → ℕ → ℕ → Bool
zeros_in Kind-as-Flush block page = page == 0
zeros_in Kind-as-Read block page = true
zeros_in Kind-as-Discard block page = page == 0
zeros_in Kind-as-Idle block page = block == 0 && page == 0

abbrev pub head_from : Result Kind ListFault → ℕ → ℕ → Result Head ListFault
head_from (Err e) block page = Err e
head_from (Ok k) block page = cond (zeros_in k block page) (Ok (record { kind = k; block = block; page = page })) (Err NotZero)

-- the head in two bytes
abbrev pub head_in : List ℕ → Result Head ListFault
head_in xs = head_from (kind_in xs) (block_in xs) (page_in xs)

-- the head at the front of some bytes
unfoldable pub head_of : List ℕ → Result Head ListFault
head_of xs = cond (nat_le 2 (length xs)) (head_in xs) (Err CutShort)

-- ---- the rest of a record

-- a set of pages: eight bytes, most significant first
abbrev pub set_in : List ℕ → ℕ
set_in xs =
    slice_index xs 0 * 2 ^ 56 + slice_index xs 1 * 2 ^ 48 + slice_index xs 2 * 2 ^ 40 + slice_index xs 3 * 2 ^ 32 + slice_index xs 4 * 2 ^ 24 + slice_index xs 5 * 2 ^ 16 + slice_index xs 6 * 2 ^ 8 + slice_index xs 7

-- the bytes of a flush's data: a page for each page of its set, also for one that no block has
abbrev pub data_length : ℕ → List ℕ → ℕ
data_length size xs = pages_in 64 (set_in (drop 2 xs)) * size

-- a record as it is found: what it asks for, the place of its first byte, and the place of the next record
pub record Found : Type 0 where
  pub item : Item
  pub place : ℕ
  pub next : ℕ

-- a record of so many bytes, if they are there
abbrev pub found_if : Bool → Item → ℕ → ℕ → Result Found ListFault
found_if whole item at bytes = cond whole (Ok (record { item = item; place = at; next = at + bytes })) (Err CutShort)

-- the record of a kind at the front of some bytes
abbrev pub body_of : Kind → ℕ → ℕ → ℕ → ℕ → List ℕ → Result Found ListFault
body_of Kind-as-Flush block page size at xs =
    let bytes = data_length size xs in
    found_if (nat_le (10 + bytes) (length xs)) (flush_of block (set_in (drop 2 xs)) (take bytes (drop 10 xs))) at (10 + bytes)
body_of Kind-as-Read block page size at xs = found_if true (read_of block page) at 2
body_of Kind-as-Discard block page size at xs = found_if (nat_le 10 (length xs)) (discard_of block (set_in (drop 2 xs))) at 10
body_of Kind-as-Idle block page size at xs = found_if true idle_round at 2

abbrev pub after_head : Result Head ListFault → ℕ → ℕ → List ℕ → Result Found ListFault
after_head (Err e) size at xs = Err e
after_head (Ok h) size at xs = body_of h.kind h.block h.page size at xs

-- the record at the front of the bytes xs, which begin at the place `at` of a list, with pages of so many bytes
abbrev pub read_one : ℕ → ℕ → List ℕ → Result Found ListFault
read_one size at xs = after_head (head_of xs) size at xs

-- ---- one record after the other

-- the next record; or none, at the list's end or for a fault
pub data Next : Type 0 where
  taken : Found → Next
  stopped : Option ListFault → Next

abbrev pub next_as : Result Found ListFault → Next
next_as (Ok f) = taken f
next_as (Err e) = stopped (Some e)

-- what comes at a place of a list
unfoldable pub next_at : List ℕ → ℕ → ℕ → Next
next_at xs at size = cond (nat_le (length xs) at) (stopped None) (next_as (read_one size at (drop at xs)))

-- ---- what the code has of a record

abbrev pub item_of : Record → Item
item_of (Flush block pages bytes) = flush_of block.0 pages.0 bytes.now
item_of (Read block page) = read_of block.0 page
item_of (Discard block pages) = discard_of block.0 pages.0
item_of Idle = idle_round

abbrev pub found_by : Taken → Found
found_by t = record { item = item_of t.record; place = t.place; next = t.next }

-- a record at the front of so many bytes, which begin at the place `at`, and the bytes behind it
abbrev pub found_from : ℕ → ℕ → Result (Record × Bor (List ℕ)) ListFault → Result Found ListFault
found_from at bytes (Ok parts) = Ok (record { item = item_of parts.0; place = at; next = at + (bytes - length parts.1.now) })
found_from at bytes (Err e) = Err e

abbrev pub next_by : Option Taken → Option ListFault → Next
next_by (Some t) fault = taken (found_by t)
next_by None fault = stopped fault

-- where a reader goes on
abbrev pub place_after : Option Taken → ℕ → ℕ
place_after (Some t) at = t.next
place_after None at = at

-- ---- how a record is written

abbrev pub head_bytes : ℕ → ℕ → ℕ → List ℕ
head_bytes kind block page = ((kind * 8192 + block * 64 + page) / 256) ∷ ((kind * 8192 + block * 64 + page) % 256) ∷ []

abbrev pub set_bytes : ℕ → List ℕ
set_bytes n =
    (n / 2 ^ 56 % 256) ∷ (n / 2 ^ 48 % 256) ∷ (n / 2 ^ 40 % 256) ∷ (n / 2 ^ 32 % 256) ∷ (n / 2 ^ 24 % 256) ∷ (n / 2 ^ 16 % 256) ∷ (n / 2 ^ 8 % 256) ∷ (n % 256) ∷ []

abbrev pub written : Item → List ℕ
written (flush_of block set bytes) = head_bytes 1 block 0 ++ (set_bytes set ++ bytes)
written (read_of block page) = head_bytes 2 block page
written (discard_of block set) = head_bytes 3 block 0 ++ set_bytes set
written idle_round = head_bytes 4 0 0

-- what a record can ask for, with pages of so many bytes
abbrev pub Fits : ℕ → Item → Type 0
Fits size (flush_of block set bytes) = (block < 128) × (set < 2 ^ 64) × (length bytes ≡ pages_in 64 set * size)
Fits size (read_of block page) = (block < 128) × (page < 64)
Fits size (discard_of block set) = (block < 128) × (set < 2 ^ 64)
Fits size idle_round = Unit {0}

-- a record that is written is read back as it was, whatever follows it
abbrev pub RecordsReturn : Type 0
RecordsReturn =
    (size at : ℕ) (item : Item) (rest : List ℕ) → Fits size item →
    read_one size at (written item ++ rest) ≡ Ok (record { item = item; place = at; next = at + length (written item) })
