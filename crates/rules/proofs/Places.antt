-- Where a page is held: how many slots name it after each move, and that the search finds one where there is one.
use Rattle.std.proofs.Common.{◌≡◌, ℕ, suc, ◌+◌, ◌<◌, ◌≤◌, Bool, true, false, cond, eqb, ◌⊎◌, List, [], ◌∷◌, length, get_or, Some, None, sum_by, count_by, Option, sym, refl, ap, ◌∙◌, subst, ap₂, inl, inr, add-zero, zero-add, arith}
use Rattle.std.proofs.lemmas.List.Sums.{sum_by-cons}
use Rattle.std.proofs.lemmas.Bool.{cases_lt, eqb-true, and_parts, both_ways}
use Rattle.flash.specs.Meaning.{Card, page_at}
use Rattle.rules.specs.State.{Slot, live, dead, is_at, one_on, slot_for, place_for}
use Rattle.rules.specs.Moves.{retire, retired, kept}
use Rattle.rules.specs.Runs.{Ledger}
use Rattle.rules.proofs.Sums.{sum_same, sum_zero}
use Rattle.rules.proofs.Counts.{table_map}
use Rattle.rules.proofs.CardPages.{Backed}

-- a slot that names page i of block d
abbrev pub one_at : ℕ → ℕ → Slot → ℕ
one_at d i x = cond (is_at d i x) 1 0

-- the slots of a table that name it
abbrev pub named_in : ℕ → ℕ → List (List Slot) → ℕ
named_in d i t = sum_by (count_by (is_at d i)) t

pub is_at_live : (d i e j : ℕ) → is_at d i (live e j) ≡ true → (d ≡ e) × (i ≡ j)
unfolding is_at
is_at_live d i e j h =
    let p = and_parts (eqb d e) (eqb i j) h in
    (eqb-true d e p.0, eqb-true i j p.1)

pub at_kept : (d i : ℕ) (xs : List Slot) → count_by (is_at d i) (kept xs) ≡ count_by (is_at d i) xs
unfolding kept is_at
at_kept d i [] = refl
at_kept d i (live e j ∷ xs) =
    omega (arith, sum_by-cons (one_at d i) (live e j) (kept xs), sum_by-cons (one_at d i) (live e j) xs, at_kept d i xs)
at_kept d i (dead ∷ xs) = omega (arith, sum_by-cons (one_at d i) dead xs, at_kept d i xs)

-- ---- slots that die

-- a live slot of another page, or of this page and then picked as this page is
one_retired : (d i : ℕ) (picks : ℕ → ℕ → Bool) (x : Slot) → one_at d i (retire picks x) ≡ cond (picks d i) 0 (one_at d i x)
unfolding retire is_at
one_retired d i picks (live e j) = go (is_at d i (live e j)) refl
  where
    other : (t u : Bool) → one_at d i (live e j) ≡ 0 → one_at d i (cond t dead (live e j)) ≡ cond u 0 (one_at d i (live e j))
    other true true z = refl
    other true false z = sym z
    other false true z = z
    other false false z = refl

    here : (t : Bool) → one_at d i (cond t dead (live e j)) ≡ cond t 0 (one_at d i (live e j))
    here true = refl
    here false = refl

    go : (b : Bool) → is_at d i (live e j) ≡ b → one_at d i (cond (picks e j) dead (live e j)) ≡ cond (picks d i) 0 (one_at d i (live e j))
    go true q =
        let r = is_at_live d i e j q in
        here (picks e j) ∙ ap (λ (b : Bool). cond b 0 (one_at d i (live e j))) (sym (ap₂ picks r.0 r.1))
    go false q = other (picks e j) (picks d i) (ap (λ (b : Bool). cond b 1 0) q)
one_retired d i picks dead = go (picks d i)
  where
    go : (b : Bool) → ◌≡◌ {A = ℕ} 0 (cond b 0 0)
    go true = refl
    go false = refl

-- none names a page that is picked, and just as many as before name any other
pub named_retired : (d i : ℕ) (picks : ℕ → ℕ → Bool) (t : List (List Slot)) → named_in d i (retired picks t) ≡ cond (picks d i) 0 (named_in d i t)
named_retired d i picks t =
    table_map (one_at d i) (retire picks) t
    ∙ sum_same (λ xs. sum_by (λ x. one_at d i (retire picks x)) xs) (λ xs. sum_by (λ x. cond (picks d i) 0 (one_at d i x)) xs)
    (λ xs. sum_same (λ x. one_at d i (retire picks x)) (λ x. cond (picks d i) 0 (one_at d i x)) (one_retired d i picks) xs) t
    ∙ go (picks d i)
  where
    go : (b : Bool) → sum_by (λ xs. sum_by (λ x. cond b 0 (one_at d i x)) xs) t ≡ cond b 0 (named_in d i t)
    go true = sum_zero (λ xs. sum_by (λ x. 0) xs) (λ xs. sum_zero (λ x. 0) (λ x. refl) xs) t
    go false = refl

-- ---- the search

backed_head :
    (led : Ledger) (c : Card) (d i b s : ℕ) (x : Slot) (xs : List Slot) → is_at d i x ≡ true → Backed led c b s (x ∷ xs) →
    led d i ≡ Some (page_at c b s)
unfolding is_at
backed_head led c d i b s (live e j) xs q k = let r = is_at_live d i e j q in ap₂ led r.0 r.1 ∙ k.0
backed_head led c d i b s dead xs q k = absurd (both_ways true (sym q) refl)

backed_tail : (led : Ledger) (c : Card) (b s : ℕ) (x : Slot) (xs : List Slot) → Backed led c b s (x ∷ xs) → Backed led c b (s + 1) xs
backed_tail led c b s (live e j) xs k = k.1
backed_tail led c b s dead xs k = k

-- the slot found in a list that stands for the pages s and up of block b
record FoundSlot (led : Ledger) (c : Card) (d i b s : ℕ) (xs : List Slot) : Type 0 where
  slot : ℕ
  found : slot_for d i xs ≡ Some slot
  bytes : led d i ≡ Some (page_at c b (s + slot))

-- what the search makes of its first slot
abbrev try_first : Option ℕ → Bool → Option ℕ
try_first rest here = cond here (Some 0) (one_on rest)

slot_found :
    (led : Ledger) (c : Card) (d i b s : ℕ) (xs : List Slot) → 0 < count_by (is_at d i) xs → Backed led c b s xs → FoundSlot led c d i b s xs
unfolding slot_for
slot_found led c d i b s [] h k = absurd (omega arith)
slot_found led c d i b s (x ∷ xs) h k = go (is_at d i x) refl (λ l. slot_found led c d i b (s + 1) xs l (backed_tail led c b s x xs k))
  where
    go : (t : Bool) → is_at d i x ≡ t → (0 < count_by (is_at d i) xs → FoundSlot led c d i b (s + 1) xs) → FoundSlot led c d i b s (x ∷ xs)
    go true q rest =
        record {
          slot = 0;
          found = ap (try_first (slot_for d i xs)) q;
          bytes = backed_head led c d i b s x xs q k ∙ ap (λ (m : ℕ). Some (page_at c b m)) (sym (add-zero s));
        }
    go false q rest =
        let z : one_at d i x ≡ 0 = rw q in
        let f = rest (omega (arith, sum_by-cons (one_at d i) x xs)) in
        record {
          slot = suc f.slot;
          found = ap (try_first (slot_for d i xs)) q ∙ ap one_on f.found;
          bytes = f.bytes ∙ ap (λ (m : ℕ). Some (page_at c b m)) (omega arith);
        }

slot_none : (d i : ℕ) (xs : List Slot) → count_by (is_at d i) xs ≡ 0 → slot_for d i xs ≡ None
unfolding slot_for
slot_none d i [] h = refl
slot_none d i (x ∷ xs) h = go (is_at d i x) refl (λ l. slot_none d i xs l)
  where
    go :
        (t : Bool) → is_at d i x ≡ t → (count_by (is_at d i) xs ≡ 0 → slot_for d i xs ≡ None) →
        try_first (slot_for d i xs) (is_at d i x) ≡ None
    go true q rest =
        let z : one_at d i x ≡ 1 = rw q in
        absurd (omega (arith, sum_by-cons (one_at d i) x xs))
    go false q rest =
        let z : one_at d i x ≡ 0 = rw q in
        ap (try_first (slot_for d i xs)) q ∙ ap one_on (rest (omega (arith, sum_by-cons (one_at d i) x xs)))

-- every list of the table, from flash block b on
abbrev TableBacked : Ledger → Card → ℕ → List (List Slot) → Type 0
TableBacked led c b [] = Unit {0}
TableBacked led c b (xs ∷ xss) = Backed led c b 0 xs × TableBacked led c (b + 1) xss

table_backed :
    (led : Ledger) (c : Card) (b : ℕ) (t : List (List Slot)) →
    ((r : ℕ) → r < length t → Backed led c (b + r) 0 (get_or t r [])) → TableBacked led c b t
table_backed led c b [] h = tt
table_backed led c b (xs ∷ xss) h = (
  subst (λ (m : ℕ). Backed led c m 0 xs) (add-zero b) (h 0 (omega arith)),
  table_backed led c (b + 1) xss (λ r l. subst (λ (m : ℕ). Backed led c m 0 (get_or xss r [])) (omega arith) (h (suc r) (omega arith))),
)

-- the flash page found
pub record Found (led : Ledger) (c : Card) (d i b : ℕ) (t : List (List Slot)) : Type 0 where
  pub block : ℕ
  pub page : ℕ
  pub found : place_for d i b t ≡ Some (block, page)
  pub bytes : led d i ≡ Some (page_at c block page)

-- what the search makes of its first block
abbrev try_block : ℕ → Option (ℕ × ℕ) → Option ℕ → Option (ℕ × ℕ)
try_block b rest o = elim o [ Some k ↦ Some (b, k) | None ↦ rest ]

found_in : (led : Ledger) (c : Card) (d i b : ℕ) (t : List (List Slot)) → 0 < named_in d i t → TableBacked led c b t → Found led c d i b t
unfolding place_for
found_in led c d i b [] h k = absurd (omega arith)
found_in led c d i b (xs ∷ xss) h k = go (cases_lt 0 (count_by (is_at d i) xs)) (λ l. found_in led c d i (b + 1) xss l k.1)
  where
    go :
        (0 < count_by (is_at d i) xs) ⊎ (count_by (is_at d i) xs ≤ 0) → (0 < named_in d i xss → Found led c d i (b + 1) xss) →
        Found led c d i b (xs ∷ xss)
    go (inl l) rest =
        let f = slot_found led c d i b 0 xs l k.0 in
        record {
          block = b;
          page = f.slot;
          found = ap (try_block b (place_for d i (b + 1) xss)) f.found;
          bytes = f.bytes ∙ ap (λ (m : ℕ). Some (page_at c b m)) (zero-add f.slot);
        }
    go (inr l) rest =
        let f = rest (omega (arith, sum_by-cons (count_by (is_at d i)) xs xss)) in
        record {
          block = f.block;
          page = f.page;
          found = ap (try_block b (place_for d i (b + 1) xss)) (slot_none d i xs (omega arith)) ∙ f.found;
          bytes = f.bytes;
        }

-- where some slot names the page, one is found
pub place_found :
    (led : Ledger) (c : Card) (d i b : ℕ) (t : List (List Slot)) → 0 < named_in d i t →
    ((r : ℕ) → r < length t → Backed led c (b + r) 0 (get_or t r [])) → Found led c d i b t
place_found led c d i b t h k = found_in led c d i b t h (table_backed led c b t k)

-- where none does, none is
pub place_none : (d i b : ℕ) (t : List (List Slot)) → named_in d i t ≡ 0 → place_for d i b t ≡ None
unfolding place_for
place_none d i b [] h = refl
place_none d i b (xs ∷ xss) h =
    let c = sum_by-cons (count_by (is_at d i)) xs xss in
    ap (try_block b (place_for d i (b + 1) xss)) (slot_none d i xs (omega arith)) ∙ place_none d i (b + 1) xss (omega arith)
