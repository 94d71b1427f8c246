-- The lines that are printed for the answers to a work list.
use Rattle.std.specs.Prelude.{ℕ, zero, suc, ◌+◌, ◌/◌, ◌%◌, cond, ◌&&◌, List, [], ◌∷◌, ◌++◌, length, take, drop, decimal, ◌==◌, nat_le, nat_lt}
use Rattle.std.specs.List.{flat_map}
use Rattle.worklist.specs.declared.answer.AnswerRecord.{AnswerRecord}
use Rattle.worklist.specs.Answers.{fields_in}

-- the letter of a kind: F a flush, R a read, D a discard, I an idle round
abbrev pub letter_for : ℕ → ℕ
letter_for kind = cond (kind == 1) 70 (cond (kind == 2) 82 (cond (kind == 3) 68 73))

-- a space, and a number in base ten
abbrev pub number_text : ℕ → List ℕ
number_text n = 32 ∷ decimal n

-- bytes in lower-case base sixteen, two digits each
abbrev pub hex_digit : ℕ → ℕ
hex_digit d = cond (nat_lt d 10) (48 + d) (87 + d)

abbrev pub hex_byte : ℕ → List ℕ
hex_byte b = hex_digit (b / 16) ∷ hex_digit (b % 16) ∷ []

abbrev pub hex_text : List ℕ → List ℕ
hex_text = flat_map hex_byte

-- a page, behind a space; nothing if there is none
abbrev pub page_text : List ℕ → List ℕ
page_text [] = []
page_text (b ∷ bs) = 32 ∷ hex_text (b ∷ bs)

-- the line of an answer: letter, number, way, erases, compactions, merges, and the page that was read
abbrev pub line_for : AnswerRecord → List ℕ → List ℕ
line_for a page =
    letter_for a.kind ∷ (number_text a.number ++ (number_text a.way ++ (number_text a.erases ++ (number_text a.compactions ++ (number_text a.merges ++ (page_text page ++ (10 ∷ [])))))))

-- the bytes of a page of the trial card, which follow the answer of an accepted read
abbrev pub page_length : AnswerRecord → ℕ
page_length a = cond (a.kind == 2 && a.number == 0) 4 0

-- a line for each answer, at most n of them
unfoldable pub lines_for : ℕ → List ℕ → List ℕ
lines_for zero xs = []
lines_for (suc n) xs =
    let a = fields_in xs in
    cond (nat_le 4 (length xs)) (line_for a (take (page_length a) (drop 4 xs)) ++ lines_for n (drop (4 + page_length a) xs)) []

-- the last line: E, the number and the place with which the list ended
abbrev pub end_line : ℕ → ℕ → List ℕ
end_line number place = 69 ∷ (number_text number ++ (number_text place ++ (10 ∷ [])))
