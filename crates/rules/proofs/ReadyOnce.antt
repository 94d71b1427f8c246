-- No move makes the maps name a page twice.
use Rattle.std.proofs.Common.{◌≡◌, ℕ, ◌+◌, ◌<◌, ◌≤◌, Bool, true, false, cond, not, ◌&&◌, eqb, ◌≢◌, ◌⊎◌, List, [], ◌∷◌, ◌++◌, length, get_or, set, Some, count_by, sym, refl, ap, ◌∙◌, subst, ap₂, inl, inr, arith}
use Rattle.std.proofs.lemmas.List.Sums.{sum_by-set, sum_by_push}
use Rattle.std.proofs.lemmas.List.{set_past, get_or-set_same, get_or-set_other}
use Rattle.std.proofs.lemmas.Bool.{cases_lt, cases_eq, cases_Bool, eq-eqb, and_parts, and_from, and_right, not_from_true, both_ways}
use Rattle.std.proofs.lemmas.Bool.Decides.{nat_tests}
use Rattle.flash.specs.Meaning.{Card}
use Rattle.rules.specs.Sets.{has, set_of}
use Rattle.rules.specs.State.{Slot, live, State, is_at, places}
use Rattle.rules.specs.Moves.{Row, retired, of_block, among, dropped, kept, compacted_at, rewritten, stored_at}
use Rattle.rules.proofs.SetLaws.{has_set_of, has_high, set_of_below}
use Rattle.rules.proofs.Sums.{moved_sum}
use Rattle.rules.proofs.Rounds.{Good, marked}
use Rattle.rules.proofs.OpenBlock.{OpenIn}
use Rattle.rules.proofs.Places.{one_at, named_in, is_at_live, at_kept, named_retired}

-- the maps name each page at most once
abbrev pub Once : State → Type 0
Once s = (d i : ℕ) → places s d i ≤ 1

-- whether a set of the block map has a page, as a number
abbrev pub one_in : List ℕ → ℕ → ℕ → ℕ
one_in sets d i = cond (has (get_or sets d 0) i) 1 0

pub one_in_le : (sets : List ℕ) (d i : ℕ) → one_in sets d i ≤ 1
one_in_le sets d i = go (has (get_or sets d 0) i)
  where
    go : (b : Bool) → ◌≤◌ (cond b 1 0) 1
    go true = omega arith
    go false = omega arith

-- ---- compaction

pub places_compacted :
    (s : State) (v : ℕ) → Good s → v < s.plan.region → v ≢ s.reserve → (d i : ℕ) → places (compacted_at s v) d i ≡ places s d i
unfolding places compacted_at
places_compacted s v g h ne d i =
    let xs = get_or s.table v [] in
    let m =
    moved_sum (count_by (is_at d i)) s.table s.reserve v (kept xs) (omega (arith, g.rows, g.reserve_in)) (omega (arith, g.rows)) ne
    g.reserve_empty refl in
    omega (arith, at_kept d i xs)

pub once_compacted : (s : State) (v : ℕ) → Good s → v < s.plan.region → v ≢ s.reserve → Once s → Once (compacted_at s v)
once_compacted s v g h ne o d i = omega (arith, o d i, places_compacted s v g h ne d i)

-- ---- slots die, and one data block has another set

-- no more slots name a page than before
named_le : (d i : ℕ) (picks : ℕ → ℕ → Bool) (t : List (List Slot)) → named_in d i (retired picks t) ≤ named_in d i t
named_le d i picks t = let e = named_retired d i picks t in go (picks d i) e
  where
    go : (b : Bool) → named_in d i (retired picks t) ≡ cond b 0 (named_in d i t) → named_in d i (retired picks t) ≤ named_in d i t
    go true e = omega arith
    go false e = omega arith

-- none names a page that is picked
named_none : (d i : ℕ) (picks : ℕ → ℕ → Bool) (t : List (List Slot)) → picks d i ≡ true → named_in d i (retired picks t) ≡ 0
named_none d i picks t e = named_retired d i picks t ∙ ap (λ (b : Bool). cond b 0 (named_in d i t)) e

-- block d has another set, whose pages it had or are of slots that die
once_marked :
    (s : State) (c : Card) (d g : ℕ) (picks : ℕ → ℕ → Bool) → Once s →
    ((i : ℕ) → (picks d i ≡ true) ⊎ (one_in (set s.sets d g) d i ≤ one_in s.sets d i)) → Once (marked s c d g picks)
unfolding places
once_marked s c d g picks o held e i =
    elim (cases_eq e d) [
      | inl q ↦
          subst (λ (k : ℕ). places (marked s c d g picks) k i ≤ 1) (sym q)
          (elim (held i) [
            | inl p ↦ omega (arith, named_none d i picks s.table p, one_in_le (set s.sets d g) d i)
            | inr l ↦ omega (arith, o d i, named_le d i picks s.table)
          ])
      | inr ne ↦
          let same : one_in (set s.sets d g) e i ≡ one_in s.sets e i =
          ap (λ (x : ℕ). cond (has x i) 1 0) (get_or-set_other s.sets d e g 0 ne) in
          omega (arith, o e i, named_le e i picks s.table)
    ]

pub once_rewritten : (s : State) (d : ℕ) (row : Row) → Once s → Once (rewritten s d row)
unfolding rewritten
once_rewritten s d row o = once_marked s _ d _ (of_block d) o (λ i. inl (eq-eqb d d refl))

-- ---- pages that are held no more

-- the set that is left of a block's
abbrev left_of : ℕ → ℕ → (ℕ → Bool) → ℕ
left_of n old picks = set_of n (λ i. has old i && not (picks i))

-- a page that is picked is not left, and any that is left was there
left_not : (n old : ℕ) (picks : ℕ → Bool) (i : ℕ) → picks i ≡ true → has (left_of n old picks) i ≡ false
left_not n old picks i p =
    elim (cases_lt i n) [
      | inl l ↦ has_set_of n (λ i. has old i && not (picks i)) i l ∙ and_right (has old i) (not (picks i)) (not_from_true (picks i) p)
      | inr l ↦ has_high n (left_of n old picks) i (set_of_below n (λ i. has old i && not (picks i))) l
    ]

left_had : (n old : ℕ) (picks : ℕ → Bool) (i : ℕ) → has (left_of n old picks) i ≡ true → has old i ≡ true
left_had n old picks i h =
    elim (cases_lt i n) [
      | inl l ↦ (and_parts (has old i) (not (picks i)) (sym (has_set_of n (λ i. has old i && not (picks i)) i l) ∙ h)).0
      | inr l ↦
          absurd
          (both_ways (has (left_of n old picks) i) (has_high n (left_of n old picks) i (set_of_below n (λ i. has old i && not (picks i))) l) h)
    ]

-- a set that has only pages of another
one_in_less : (sets : List ℕ) (d g i : ℕ) → (has g i ≡ true → has (get_or sets d 0) i ≡ true) → one_in (set sets d g) d i ≤ one_in sets d i
one_in_less sets d g i h =
    elim (cases_lt d (length sets)) [
      | inl l ↦
          let here : one_in (set sets d g) d i ≡ cond (has g i) 1 0 = ap (λ (x : ℕ). cond (has x i) 1 0) (get_or-set_same sets d g 0 l) in
          grind (arith, nat_tests)
      | inr l ↦ let same : one_in (set sets d g) d i ≡ one_in sets d i = ap (λ (x : List ℕ). one_in x d i) (set_past sets d g l) in omega arith
    ]

pub once_dropped : (s : State) (d : ℕ) (picks : ℕ → Bool) → Once s → Once (dropped s d picks)
unfolding dropped
once_dropped s d picks o =
    once_marked s s.card d (left_of s.pages (get_or s.sets d 0) picks) (among d picks) o
    (λ i. inr (one_in_less s.sets d _ i (left_had s.pages (get_or s.sets d 0) picks i)))

-- a page that is dropped is named no more
pub places_dropped :
    (s : State) (d : ℕ) (picks : ℕ → Bool) (i : ℕ) → Good s → d < s.plan.data → picks i ≡ true → places (dropped s d picks) d i ≡ 0
unfolding places dropped
places_dropped s d picks i g hd p =
    let left = left_of s.pages (get_or s.sets d 0) picks in
    let bit : has (get_or (set s.sets d left) d 0) i ≡ false =
    ap (λ (x : ℕ). has x i) (get_or-set_same s.sets d left 0 (omega (arith, g.sets_are))) ∙ left_not s.pages (get_or s.sets d 0) picks i p in
    let none : one_in (set s.sets d left) d i ≡ 0 = ap (λ (b : Bool). cond b 1 0) bit in
    omega (arith, named_none d i (among d picks) s.table (and_from (eqb d d) (picks i) (eq-eqb d d refl) p))

-- ---- a page into the region

-- it is named once more, and any other as often as before
pub places_stored :
    (s : State) (d i : ℕ) (x : List ℕ) (r : ℕ) → Good s → OpenIn s r → (e j : ℕ) →
    places (stored_at s d i x (Some r)) e j ≡ places s e j + one_at e j (live d i)
unfolding places
places_stored s d i x r g o e j =
    let xs = get_or s.table r [] in
    let ys = xs ++ (live d i ∷ []) in
    omega (arith, sum_by-set (count_by (is_at e j)) s.table r ys [] (omega (arith, g.rows, o.inside)), sum_by_push (one_at e j) xs (live d i))

-- a slot names one page alone
pub one_at_le : (e j d i : ℕ) → one_at e j (live d i) ≤ 1
one_at_le e j d i = go (is_at e j (live d i))
  where
    go : (b : Bool) → ◌≤◌ (cond b 1 0) 1
    go true = omega arith
    go false = omega arith

pub one_at_other : (e j d i : ℕ) → ((e ≡ d) × (j ≡ i) → ⊥) → one_at e j (live d i) ≡ 0
one_at_other e j d i ne = go (is_at e j (live d i)) refl
  where
    go : (b : Bool) → is_at e j (live d i) ≡ b → ◌≡◌ {A = ℕ} (cond b 1 0) 0
    go true q = absurd (ne (is_at_live e j d i q))
    go false q = refl

pub once_stored :
    (s : State) (d i : ℕ) (x : List ℕ) (r : ℕ) → Good s → OpenIn s r → places s d i ≡ 0 → Once s → Once (stored_at s d i x (Some r))
once_stored s d i x r g room none o e j =
    let p = places_stored s d i x r g room e j in
    elim (cases_Bool (is_at e j (live d i))) [
      | inl q ↦
          let n = is_at_live e j d i q in
          let same : places s e j ≡ places s d i = ap₂ (places s) n.0 n.1 in
          omega (arith, one_at_le e j d i)
      | inr q ↦
          let z : one_at e j (live d i) ≡ 0 = ap (λ (b : Bool). cond b 1 0) q in
          omega (arith, o e j)
    ]
