-- How the answers to a work list lie in their buffer.
use Rattle.std.specs.Prelude.{◌≡◌, ℕ, ◌+◌, ◌*◌, ◌/◌, ◌%◌, ◌^◌, ◌<◌, List, [], ◌∷◌, ◌++◌, Ok, Err, Result, slice_index}
use Rattle.rules.specs.Calls.{Call, flush, read, discard, idle, Answer, refused, done}
use Rattle.store.specs.declared.refusal.StoreRefusal.{StoreRefusal}
use Rattle.store.specs.declared.report.Report.{Report}
use Rattle.store.specs.Calls.{report_of}
use Rattle.store.specs.Numbers.{number_of}
use Rattle.worklist.specs.declared.answer.AnswerRecord.{AnswerRecord}

-- the number of a call's kind
abbrev pub kind_of : Call → ℕ
kind_of (flush d set bytes area) = 1
kind_of (read d i len) = 2
kind_of (discard d set) = 3
kind_of (idle area) = 4

-- what a call answers that gives no bytes: its report, or the number of its refusal
abbrev pub answer_of : Result Report StoreRefusal → Answer
answer_of (Ok r) = done (report_of r)
answer_of (Err e) = refused (number_of e)

-- the fields of an answer to a call of a kind: all are zero after a refusal's number
abbrev pub fields_for : ℕ → Answer → AnswerRecord
fields_for kind (refused n) = record { kind = kind; number = n; way = 0; erases = 0; compactions = 0; merges = 0 }
fields_for kind (done r) =
    record { kind = kind; number = 0; way = r.way; erases = r.erases; compactions = r.compactions; merges = r.merges }

-- four bytes, most significant first: kind 3 bits, number 5, way 2, erases 8, compactions 7, merges 7
abbrev pub fields_word : AnswerRecord → ℕ
fields_word a =
    a.kind * 2 ^ 29 + a.number * 2 ^ 24 + a.way * 2 ^ 22 + a.erases * 2 ^ 14 + a.compactions * 2 ^ 7 + a.merges

abbrev pub fields_bytes : AnswerRecord → List ℕ
fields_bytes a =
    (fields_word a / 2 ^ 24 % 256) ∷ (fields_word a / 2 ^ 16 % 256) ∷ (fields_word a / 2 ^ 8 % 256) ∷ (fields_word a % 256) ∷ []

-- what four bytes say
abbrev pub fields_in : List ℕ → AnswerRecord
fields_in xs =
    record {
      kind = slice_index xs 0 / 32;
      number = slice_index xs 0 % 32;
      way = slice_index xs 1 / 64;
      erases = slice_index xs 1 % 64 * 4 + slice_index xs 2 / 64;
      compactions = slice_index xs 2 % 64 * 2 + slice_index xs 3 / 128;
      merges = slice_index xs 3 % 128;
    }

-- fields that have room in four bytes
pub record Packs (a : AnswerRecord) : Type 0 where
  pub kind : a.kind < 8
  pub number : a.number < 32
  pub way : a.way < 4
  pub erases : a.erases < 256
  pub compactions : a.compactions < 128
  pub merges : a.merges < 128

-- an answer that is written is read back as it was, whatever follows it
abbrev pub AnswersReturn : Type 0
AnswersReturn = (a : AnswerRecord) (rest : List ℕ) → Packs a → fields_in (fields_bytes a ++ rest) ≡ a

-- the bytes that follow the fields: those of a page that was read
abbrev pub page_of : Answer → List ℕ
page_of (refused n) = []
page_of (done r) = r.bytes

-- the bytes of an answer
abbrev pub answered : ℕ → Answer → List ℕ
answered kind a = fields_bytes (fields_for kind a) ++ page_of a
