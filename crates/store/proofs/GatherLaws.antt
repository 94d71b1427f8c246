-- The new contents of a block, gathered page by page in an area.
use Rattle.std.proofs.Common.{◌≡◌, ℕ, ◌+◌, ◌*◌, ◌<◌, ◌≤◌, Bool, true, false, cond, ◌||◌, eqb, ◌≢◌, List, length, take, drop, Some, None, Option, sym, refl, ap, ◌∙◌, subst, inl, inr, add-mul, one-mul, add-one, arith}
use borrow.Rule.Slice.PartMut.{put_mid}
use Rattle.std.proofs.lemmas.List.{drop-take, drop-drop, drop_at, length-take-le, length-drop}
use Rattle.std.proofs.lemmas.Slice.{take-put_mid_below, take-put_mid}
use Rattle.std.proofs.lemmas.Bool.{cases_eq, cases_lt, eq-eqb, ne_eqb}
use Rattle.flash.specs.Meaning.{Card, page_at}
use Rattle.rules.specs.Sets.{has, set_of, pages_in}
use Rattle.rules.specs.State.{State, held}
use Rattle.rules.specs.Moves.{Row, gathered}
use Rattle.rules.specs.Calls.{row_at, row_of}
use Rattle.rules.proofs.SetLaws.{has_none, has_high, has_set_of, set_of_below, pages_more}
use Rattle.store.specs.Moves.{row_in, page_if, Laid}
use Rattle.store.proofs.FillLaws.{row_end}

-- ---- one page

-- the bytes at a place that may not be there
abbrev held_page : Card → Option (ℕ × ℕ × ℕ) → Option (List ℕ)
held_page c o = elim o [ None ↦ None | Some p ↦ Some (page_at c p.1 p.2) ]

-- the group's page, or else another
abbrev or_else : Option (List ℕ) → Option (List ℕ) → Option (List ℕ)
or_else own other = elim own [ Some x ↦ Some x | None ↦ other ]

module _ (s : State) (d : ℕ) (row : Row) (i : ℕ) where
  pub new_own : (x : List ℕ) → row i ≡ Some x → Some x ≡ gathered s d row i
  unfolding gathered
  new_own x e = sym (ap (λ (o : Option (List ℕ)). or_else o (held_page s.card (held s d i))) e)

  pub new_held : (o : Option (ℕ × ℕ × ℕ)) → row i ≡ None → held s d i ≡ o → held_page s.card o ≡ gathered s d row i
  unfolding gathered
  new_held o e f = sym (ap (λ (r : Option (List ℕ)). or_else r (held_page s.card (held s d i))) e ∙ ap (held_page s.card) f)

  -- of the group only this page matters
  new_by : (own : Option (List ℕ)) → own ≡ row i → gathered s d (λ _. own) i ≡ gathered s d row i
  unfolding gathered
  new_by own e = ap (λ (o : Option (List ℕ)). or_else o (held_page s.card (held s d i))) e

-- the group's page, by whether its set has it
pub own_there : (b : Bool) (x : List ℕ) → b ≡ true → page_if b x ≡ Some x
own_there b x e = ap (λ (t : Bool). page_if t x) e

pub own_not : (b : Bool) (x : List ℕ) → b ≡ false → page_if b x ≡ None
own_not b x e = ap (λ (t : Bool). page_if t x) e

-- ---- the bytes of the group that are left

module _ (size g : ℕ) (bytes : List ℕ) where
  row_cut : (i : ℕ) (b : Bool) → page_if b (take size (drop (pages_in i g * size) bytes)) ≡ row_at size g bytes i b
  row_cut i true = refl
  row_cut i false = refl

  -- the page comes first in what is left
  row_first : (i : ℕ) (rest : List ℕ) → rest ≡ drop (pages_in i g * size) bytes → page_if (has g i) (take size rest) ≡ row_of size g bytes i
  unfolding row_of
  row_first i rest e = ap (λ (xs : List ℕ). page_if (has g i) (take size xs)) e ∙ row_cut i (has g i)

  pub new_first :
      (s : State) (d n i : ℕ) (rest : List ℕ) → size ≡ n → rest ≡ drop (pages_in i g * size) bytes →
      gathered s d (λ _. page_if (has g i) (take n rest)) i ≡ gathered s d (row_of size g bytes) i
  new_first s d n i rest e is =
      new_by s d (row_of size g bytes) i (page_if (has g i) (take n rest))
      (ap (λ (k : ℕ). page_if (has g i) (take k rest)) (sym e) ∙ row_first i rest is)

pages_next : (g i : ℕ) (b : Bool) → has g i ≡ b → pages_in (i + 1) g ≡ pages_in i g + cond b 1 0
unfolding pages_in
pages_next g i b e = ap (λ (n : ℕ). pages_in n g) (add-one i) ∙ ap (λ (t : Bool). pages_in i g + cond t 1 0) e

module _ (size g : ℕ) (bytes : List ℕ) where
  pub rest_all : bytes ≡ drop (pages_in 0 g * size) bytes
  unfolding pages_in
  rest_all = ap (λ (n : ℕ). drop n bytes) z
    where
      z : 0 ≡ 0 * size
      z = omega arith

  module _ (i : ℕ) (rest : List ℕ) (is : rest ≡ drop (pages_in i g * size) bytes) where
    -- a page of the group is all there
    pub own_fits : (n : ℕ) → i < n → length bytes ≡ pages_in n g * size → has g i ≡ true → size ≤ length rest
    own_fits n h e q =
        let up = pages_more g (i + 1) n (omega arith) in
        let next = pages_next g i true q in
        let fits = row_end (pages_in i g) (pages_in n g) size (length bytes) (omega arith) (omega arith) in
        let left = ap length is ∙ length-drop (pages_in i g * size) bytes in
        omega arith

    pub rest_next : has g i ≡ true → drop size rest ≡ drop (pages_in (i + 1) g * size) bytes
    rest_next q =
        let z : pages_in i g * size + size ≡ pages_in (i + 1) g * size =
        let next = pages_next g i true q in
        let e : pages_in (i + 1) g * size ≡ (pages_in i g + 1) * size = ap (λ (n : ℕ). n * size) next in
        omega (arith, add-mul (pages_in i g) 1 size, one-mul size) in
        ap (drop size) is ∙ drop-drop size (pages_in i g * size) bytes
        ∙ ap (λ (n : ℕ). drop n bytes) z

    pub rest_same : has g i ≡ false → rest ≡ drop (pages_in (i + 1) g * size) bytes
    rest_same q =
        let z : pages_in i g ≡ pages_in (i + 1) g = let next = pages_next g i false q in omega arith in
        is ∙ ap (λ (n : ℕ). drop (n * size) bytes) z

-- ---- the set of the pages that there are

-- a set that tells of page n as well
pub record Added (was n : ℕ) (there : Bool) (is : ℕ) : Type 0 where
  pub here : has is n ≡ there
  pub other : (j : ℕ) → j ≢ n → has is j ≡ has was j

module _ (was n : ℕ) (none_above : (j : ℕ) → n ≤ j → has was j ≡ false) (there : Bool) (is : ℕ) where
  -- the page is not there, and the set stays
  pub added_not : there ≡ false → is ≡ was → Added was n there is
  added_not q e =
      record { here = ap (λ (g : ℕ). has g n) e ∙ none_above n (omega arith) ∙ sym q; other = λ j ne. ap (λ (g : ℕ). has g j) e }

  -- the page is there, and the set has it as well
  pub added_with : there ≡ true → n < 64 → is ≡ set_of 64 (λ j. eqb j n || has was j) → Added was n there is
  added_with q h e =
      let picks : ℕ → Bool = λ j. eqb j n || has was j in
      record {
        here = ap (λ (g : ℕ). has g n) e ∙ has_set_of 64 picks n h ∙ ap (λ (b : Bool). b || has was n) (eq-eqb n n refl) ∙ sym q;
        other = λ j ne.
            ap (λ (g : ℕ). has g j) e
            ∙ elim (cases_lt j 64) [
              | inl l ↦ has_set_of 64 picks j l ∙ ap (λ (b : Bool). b || has was j) (ne_eqb j n ne)
              | inr l ↦ has_high 64 (set_of 64 picks) j (set_of_below 64 picks) l ∙ sym (none_above j (omega arith))
            ];
      }

-- ---- the area

-- page i of n pages lies within an area that has room for them
pub row_in_lem :
    (i n s size : ℕ) (was is : List ℕ) → i < n → s ≡ size → n * size ≤ length was → length is ≡ length was → i * s + s ≤ length is
row_in_lem i n s size was is h e room same = row_end i n s (length is) h (rw (e, same) room)

module _ (m ys : List ℕ) (a l : ℕ) (fits : a + l ≤ length m) (len : length ys ≡ l) where
  -- a part before the one that was written, and the one that was written
  part_before : (o k : ℕ) → o + k ≤ a → take k (drop o (put_mid a l m ys)) ≡ take k (drop o m)
  part_before o k h =
      sym (drop-take o k (put_mid a l m ys))
      ∙ ap (drop o) (take-put_mid_below a l m ys (o + k) h (omega arith))
      ∙ drop-take o k m

  part_at : take l (drop a (put_mid a l m ys)) ≡ ys
  part_at =
      sym (drop-take a l (put_mid a l m ys))
      ∙ ap (drop a) (take-put_mid a l m ys (a + l) (omega arith) (omega arith))
      ∙ drop_at (take a m) ys a (length-take-le a m (omega arith))

pub laid_none : (row : Row) (size : ℕ) (area : List ℕ) → Laid row 0 size area 0
laid_none row size area = record { rows = λ i l. absurd (omega arith); none_above = λ i l. has_none i }

module _ (row : Row) (set size : ℕ) (area : List ℕ) (n : ℕ) (laid : Laid row set size area n)
    (part : List ℕ) (fits : n * size + size ≤ length area) (len : length part ≡ size) where
  -- one page more is written in its place
  pub laid_more :
      (there : Bool) (set' : ℕ) → page_if there part ≡ row n → Added set n there set' → Laid row set' size (put_mid (n * size) size area part) (n + 1)
  laid_more there set' e added =
      record {
        rows = λ i l.
            elim (cases_eq i n) [
              | inl q ↦ subst (λ (k : ℕ). row_in set' size after k ≡ row k) (sym q) here
              | inr ne ↦
                  ap (λ (t : Bool). page_if t (take size (drop (i * size) after))) (added.other i ne)
                  ∙ ap (page_if (has set i)) (part_before area part (n * size) size fits len (i * size) size (row_end i n size (n * size) (omega arith) (omega arith)))
                  ∙ laid.rows i (omega arith)
            ];
        none_above = λ i l. added.other i (λ q. omega arith) ∙ laid.none_above i (omega arith);
      }
    where
      after : List ℕ
      after = put_mid (n * size) size area part

      here : row_in set' size after n ≡ row n
      here =
          ap (λ (t : Bool). page_if t (take size (drop (n * size) after))) added.here
          ∙ ap (page_if there) (part_at area part (n * size) size fits len)
          ∙ e
