-- Lines that are printed one after the other make up the text.
use Rattle.std.proofs.Common.{◌≡◌, ℕ, zero, suc, ◌+◌, ◌-◌, ◌^◌, ◌<◌, ◌≤◌, min, false, leb, List, [], ◌++◌, length, slice_index, get_or, take, drop, sym, refl, ap, ◌∙◌, append_assoc, arith, length-drop}
use Rattle.std.proofs.lemmas.List.{append-nil, drop-drop, drop_min, flat_map_more, get_or-take, take_min, take_more}
use Rattle.std.proofs.lemmas.Bool.{le-leb, lt-leb, cond-true, cond-false}
use Rattle.std.proofs.lemmas.Fmt.{hex_byte as std_hex_byte}
use Rattle.std.specs.Fmt.{digits, padded_integral, format_spec}
use Rattle.worklist.specs.declared.answer.AnswerRecord.{AnswerRecord}
use Rattle.worklist.specs.Answers.{fields_in}
use Rattle.trialcard.specs.Lines.{hex_byte, hex_text, line_for, page_length, lines_for}

-- some answers are printed: the text so far, and the lines of the rest, make up the lines of all
pub record Unprinted (before answers text rest : List ℕ) : Type 0 where
  pub left : ℕ
  pub enough : length rest + 1 ≤ left
  pub is : text ++ lines_for left rest ≡ before ++ lines_for (length answers + 1) answers

pub unprinted_all : (before answers : List ℕ) → Unprinted before answers before answers
unprinted_all before answers = record { left = length answers + 1; enough = omega arith; is = refl }

module _ (before answers text rest : List ℕ) (u : Unprinted before answers text rest) where
  -- one line more: n bytes follow the fields, as many as the page has if so many are there
  pub unprinted_on :
      (a : AnswerRecord) (n : ℕ) (page rest' text' : List ℕ) → 4 ≤ length rest → a ≡ fields_in (take 4 rest) → n ≡ min (page_length a) (length (drop 4 rest)) →
      page ≡ take n (drop 4 rest) → rest' ≡ drop n (drop 4 rest) → text' ≡ text ++ line_for a page → Unprinted before answers text' rest'
  unfolding lines_for
  unprinted_on a n page rest' text' h is many part behind t = go u.left u.enough u.is
    where
      front : (i : ℕ) → i < 4 → slice_index (take 4 rest) i ≡ slice_index rest i
      front i l = get_or-take 4 rest i 0 l

      e : a ≡ fields_in rest
      e = is ∙ rw (front 0 (omega arith), front 1 (omega arith), front 2 (omega arith), front 3 (omega arith)) refl

      p : page ≡ take (page_length a) (drop 4 rest)
      p = part ∙ ap (λ k. take k (drop 4 rest)) many ∙ take_min (page_length a) (drop 4 rest)

      r : rest' ≡ drop (4 + page_length a) rest
      r = behind ∙ ap (λ k. drop k (drop 4 rest)) many ∙ drop_min (page_length a) (drop 4 rest) ∙ drop-drop (page_length a) 4 rest

      go : (n : ℕ) → length rest + 1 ≤ n → text ++ lines_for n rest ≡ before ++ lines_for (length answers + 1) answers → Unprinted before answers text' rest'
      go zero l q = absurd (omega arith)
      go (suc n) l q =
          let first : List ℕ = line_for (fields_in rest) (take (page_length (fields_in rest)) (drop 4 rest)) in
          let later : List ℕ = lines_for n (drop (4 + page_length (fields_in rest)) rest) in
          let line : line_for a page ≡ first =
          ap (line_for a) p ∙ ap (λ (x : AnswerRecord). line_for x (take (page_length x) (drop 4 rest))) e in
          let more : lines_for n rest' ≡ later = ap (lines_for n) (r ∙ ap (λ (x : AnswerRecord). drop (4 + page_length x) rest) e) in
          record {
            left = n;
            enough = omega (arith, ap length r, length-drop (4 + page_length a) rest);
            is =
                ap (λ (x : List ℕ). x ++ lines_for n rest') (t ∙ ap (λ (x : List ℕ). text ++ x) line) ∙ ap (λ (x : List ℕ). (text ++ first) ++ x) more ∙
                append_assoc text first later ∙ ap (λ (x : List ℕ). text ++ x) (sym (cond-true (leb 4 (length rest)) _ _ (le-leb 4 (length rest) h))) ∙ q;
          }

  -- nothing is left
  pub printed : length rest < 4 → text ≡ before ++ lines_for (length answers + 1) answers
  unfolding lines_for
  printed h = go u.left u.is
    where
      none : (n : ℕ) → lines_for n rest ≡ []
      none zero = refl
      none (suc n) = cond-false (leb 4 (length rest)) _ _ (lt-leb 4 (length rest) h)

      go : (n : ℕ) → text ++ lines_for n rest ≡ before ++ lines_for (length answers + 1) answers → text ≡ before ++ lines_for (length answers + 1) answers
      go n q = sym (append-nil text) ∙ ap (λ (x : List ℕ). text ++ x) (sym (none n)) ∙ q

-- ---- a page

-- one byte more
pub hex_more :
    (xs : List ℕ) (i : ℕ) → i < length xs → get_or xs i 0 < 256 →
    hex_text (take i xs) ++ padded_integral (format_spec 32 0 4 2 (2 ^ 64 - 1)) false [] (digits 16 false (get_or xs i 0)) ≡ hex_text (take (i + 1) xs)
hex_more xs i h small =
    ap (λ (x : List ℕ). hex_text (take i xs) ++ x) (std_hex_byte false (get_or xs i 0) small) ∙
    flat_map_more hex_byte [] (take i xs) (get_or xs i 0) ∙ ap hex_text (sym (take_more xs i 0 h))
