-- What each move does to the counts of live and dead slots: no slot is lost, a merge takes the greatest share of the live ones,
-- and a compaction recovers just the dead slots of its victim, of which there is at least one.
use Rattle.std.proofs.Common.{◌≡◌, ℕ, zero, suc, ◌+◌, ◌*◌, ◌<◌, ◌≤◌, Bool, true, false, cond, eqb, ◌≢◌, List, [], ◌∷◌, map, length, get_or, set, Some, sum_by, refl, ap, ◌∙◌, subst, inl, inr, mul-zero, arith}
use Rattle.std.specs.List.{All, range_with_len}
use Rattle.std.proofs.lemmas.List.Sums.{sum_by-cons, sum_by-le-sum_by}
use Rattle.std.proofs.lemmas.List.{length-map}
use Rattle.std.proofs.lemmas.Bool.{cases_eq, eq-eqb}
use Rattle.std.proofs.lemmas.List.FromFn.{length-range_with_len, get_or-range_with_len}
use Rattle.rules.specs.Choice.{greatest}
use Rattle.rules.specs.State.{Slot, live, dead, one_live, one_dead, one_of, lives, deads, share_of}
use Rattle.rules.specs.Moves.{retire, retired, of_block, kept}
use Rattle.rules.specs.Ready.{Within, Filed}
use Rattle.rules.proofs.Sums.{sum_same, sum_add, sum_le_on, sum_map, sum_swap, moved_sum}
use Rattle.rules.proofs.Greatest.{Top, top, top_share}

-- ---- every slot is live or dead

live_or_dead : (x : Slot) → one_live x + one_dead x ≡ 1
live_or_dead (live d i) = refl
live_or_dead dead = refl

pub lives_deads : (xs : List Slot) → lives xs + deads xs ≡ length xs
lives_deads [] = refl
lives_deads (x ∷ xs) =
    omega (arith, sum_by-cons one_live x xs, sum_by-cons one_dead x xs, live_or_dead x, lives_deads xs)

pub all_slots : (t : List (List Slot)) → sum_by lives t + sum_by deads t ≡ sum_by length t
all_slots t = sum_add lives deads length lives_deads t

-- ---- slots that die

-- counts of the slots of a whole table, after each slot was turned into another
pub table_map :
    (f : Slot → ℕ) (g : Slot → Slot) (t : List (List Slot)) →
    sum_by (λ xs. sum_by f xs) (map (map g) t) ≡ sum_by (λ xs. sum_by (λ x. f (g x)) xs) t
table_map f g t =
    sum_map (λ xs. sum_by f xs) (map g) t
    ∙ sum_same (λ xs. sum_by f (map g xs)) (λ xs. sum_by (λ x. f (g x)) xs) (λ xs. sum_map f g xs) t

retire_one : (d : ℕ) (x : Slot) → one_live (retire (of_block d) x) + one_of d x ≡ one_live x
unfolding retire
retire_one d (live e j) = go (eqb e d)
  where
    go : (b : Bool) → one_live (cond b dead (live e j)) + cond b 1 0 ≡ 1
    go true = refl
    go false = refl
retire_one d dead = refl

-- the live slots of one block die
pub merge_live : (d : ℕ) (t : List (List Slot)) → sum_by lives (retired (of_block d) t) + share_of t d ≡ sum_by lives t
merge_live d t =
    let e = table_map one_live (retire (of_block d)) t in
    let f =
    sum_add (λ xs. sum_by (λ x. one_live (retire (of_block d) x)) xs) (λ xs. sum_by (one_of d) xs) lives
    (λ xs. sum_add (λ x. one_live (retire (of_block d) x)) (one_of d) one_live (retire_one d) xs) t in
    omega arith

retire_le : (picks : ℕ → ℕ → Bool) (x : Slot) → one_live (retire picks x) ≤ one_live x
unfolding retire
retire_le picks (live e j) = go (picks e j)
  where
    go : (b : Bool) → one_live (cond b dead (live e j)) ≤ 1
    go true = omega arith
    go false = omega arith
retire_le picks dead = omega arith

-- whichever slots die, no slot more is live
pub retired_live : (picks : ℕ → ℕ → Bool) (t : List (List Slot)) → sum_by lives (retired picks t) ≤ sum_by lives t
retired_live picks t =
    let e = table_map one_live (retire picks) t in
    let f =
    sum_by-le-sum_by (λ xs. sum_by (λ x. one_live (retire picks x)) xs) lives t
    (λ xs. sum_by-le-sum_by (λ x. one_live (retire picks x)) one_live xs (retire_le picks)) in
    omega arith

-- and as many are live or dead as before
pub retired_slots : (picks : ℕ → ℕ → Bool) (t : List (List Slot)) → sum_by length (retired picks t) ≡ sum_by length t
retired_slots picks t =
    sum_map length (map (retire picks)) t
    ∙ sum_same (λ xs. length (map (retire picks) xs)) length (λ xs. length-map xs (retire picks)) t

-- ---- the fullest block has at least its share

counted_once : (e a n : ℕ) → a ≤ e → e < a + n → 1 ≤ sum_by (λ d. cond (eqb e d) 1 0) (range_with_len a n)
counted_once e a zero h k = absurd (omega arith)
counted_once e a (suc n) h k =
    let c = sum_by-cons (λ d. cond (eqb e d) 1 0) a (range_with_len (a + 1) n) in
    elim (cases_eq e a) [
      | inl q ↦ let one : ◌≡◌ {A = ℕ} (cond (eqb e a) 1 0) 1 = rw (eq-eqb e a q) in omega arith
      | inr q ↦ omega (arith, counted_once e (a + 1) n (omega arith) (omega arith))
    ]

one_within : (l n : ℕ) (x : Slot) → Within l n x → one_live x ≤ sum_by (λ d. one_of d x) (range_with_len 0 l)
one_within l n (live e j) h = counted_once e 0 l (omega arith) (omega (arith, h.0))
one_within l n dead h = omega arith

-- the blocks' shares add up to all live slots
pub spread :
    (l n : ℕ) (t : List (List Slot)) → All (Filed l n) t → sum_by lives t ≤ sum_by (share_of t) (range_with_len 0 l)
spread l n t a =
    rw (sum_swap (λ d xs. sum_by (one_of d) xs) (range_with_len 0 l) t)
    (sum_le_on lives (λ xs. sum_by (λ d. sum_by (one_of d) xs) (range_with_len 0 l)) (Filed l n)
    (λ xs b.
    rw (sum_swap one_of (range_with_len 0 l) xs)
    (sum_le_on one_live (λ x. sum_by (λ d. one_of d x) (range_with_len 0 l)) (Within l n) (one_within l n) xs b.within))
    t a)

-- block d is the fullest, so that the live slots are at most l times its own
pub record Share (l : ℕ) (t : List (List Slot)) (d : ℕ) : Type 0 where
  pub chosen : greatest (share_of t) (range_with_len 0 l) ≡ Some d
  pub inside : d < l
  pub share : sum_by lives t ≤ l * share_of t d

pub share : (l n : ℕ) (t : List (List Slot)) → 0 < l → All (Filed l n) t → (d : ℕ) × Share l t d
share zero n t h a = absurd (omega arith)
share (suc l) n t h a =
    let r = top (share_of t) 0 (range_with_len (0 + 1) l) 0 in
    let k = r.0 in
    let len : length (range_with_len 0 (suc l)) ≡ suc l = length-range_with_len 0 (suc l) in
    let lt : k < suc l = omega (arith, r.1.inside) in
    let e : get_or (range_with_len 0 (suc l)) k 0 ≡ k = get_or-range_with_len 0 (suc l) k 0 lt ∙ omega arith in
    let s = top_share (share_of t) (range_with_len 0 (suc l)) 0 k r.1 in
    let f : sum_by (share_of t) (range_with_len 0 (suc l)) ≤ suc l * share_of t k =
    subst (λ (x : ℕ). sum_by (share_of t) (range_with_len 0 (suc l)) ≤ x * share_of t k) len
    (subst (λ (y : ℕ). sum_by (share_of t) (range_with_len 0 (suc l)) ≤ length (range_with_len 0 (suc l)) * share_of t y) e s) in
    (k, record { chosen = r.1.found; inside = lt; share = omega (arith, spread (suc l) n t a, f) })

-- ---- compaction

pub lives_kept : (xs : List Slot) → lives (kept xs) ≡ lives xs
unfolding kept
lives_kept [] = refl
lives_kept (live d i ∷ xs) =
    omega (arith, sum_by-cons one_live (live d i) (kept xs), sum_by-cons one_live (live d i) xs, lives_kept xs)
lives_kept (dead ∷ xs) = omega (arith, sum_by-cons one_live dead xs, lives_kept xs)

pub deads_kept : (xs : List Slot) → deads (kept xs) ≡ 0
unfolding kept
deads_kept [] = refl
deads_kept (live d i ∷ xs) = omega (arith, sum_by-cons one_dead (live d i) (kept xs), deads_kept xs)
deads_kept (dead ∷ xs) = deads_kept xs

-- block v has the most dead slots, and just these are recovered where its live ones go to the empty block r
pub record Freed (t : List (List Slot)) (r v : ℕ) : Type 0 where
  pub chosen : greatest deads t ≡ Some v
  pub inside : v < length t
  pub apart : v ≢ r
  pub some : 0 < deads (get_or t v [])
  pub live_same : sum_by lives (set (set t r (kept (get_or t v []))) v []) ≡ sum_by lives t
  pub dead_less : sum_by deads (set (set t r (kept (get_or t v []))) v []) + deads (get_or t v []) ≡ sum_by deads t

-- a share of something is something
pub best_positive : (n b s : ℕ) → s ≤ n * b → 0 < s → 0 < b
best_positive n zero s h k = absurd (let z : n * 0 ≡ 0 = mul-zero n in omega arith)
best_positive n (suc b) s h k = omega arith

freed_at :
    (t : List (List Slot)) (r v : ℕ) → Top deads t [] v → r < length t → get_or t r [] ≡ [] → 0 < sum_by deads t → Freed t r v
freed_at t r v p hr blank positive =
    let xs = get_or t v [] in
    let best : 0 < deads xs = best_positive (length t) (deads xs) (sum_by deads t) (top_share deads t [] v p) positive in
    let none : deads (get_or t r []) ≡ 0 = ap deads blank in
    let ne : v ≢ r = λ e. let q : deads xs ≡ deads (get_or t r []) = ap (λ (k : ℕ). deads (get_or t k [])) e in omega arith in
    record {
      chosen = p.found;
      inside = p.inside;
      apart = ne;
      some = best;
      live_same = omega (arith, moved_sum lives t r v (kept xs) hr p.inside ne blank refl, lives_kept xs);
      dead_less = omega (arith, moved_sum deads t r v (kept xs) hr p.inside ne blank refl, deads_kept xs);
    }

pub freed :
    (t : List (List Slot)) (r : ℕ) → r < length t → get_or t r [] ≡ [] → 0 < sum_by deads t → (v : ℕ) × Freed t r v
freed [] r hr blank positive = absurd (omega arith)
freed (x ∷ xs) r hr blank positive =
    let p = top deads x xs [] in
    (p.0, freed_at (x ∷ xs) r p.0 p.1 hr blank positive)
