-- The scan for worn blocks, and the blocks that a format clears, one after the other.
use Rattle.std.proofs.Common.{List, [], ◌∷◌, ◌++◌, ◌||◌, refl, ◌≡◌, ℕ, zero, suc, ◌+◌, ◌<◌, ◌≤◌, Bool, true, false, cond, ltb, sym, ap, ◌∙◌, add-one, arith}
use Rattle.std.proofs.lemmas.List.{map-id}
use Rattle.std.proofs.lemmas.List.FromFn.{map-range_with_len_more}
use Rattle.std.specs.List.{list_any, range_with_len}
use Rattle.flash.specs.Meaning.{Card, block_count, floor_at, erase_count_at}
use Rattle.rules.specs.Calls.{near_worn, cleared_below, clearing_below}
use Rattle.rules.specs.Moves.{cleared, clearing}
use Rattle.rules.proofs.ReadyErases.{far_from_worn, can_clear, cleared_below_more, clearing_below_more}

-- ---- the scan for worn blocks

or_none : (a : Bool) → (a || false) ≡ cond a true false
or_none true = refl
or_none false = refl

or_later : (a b l : Bool) → (a || cond b true l) ≡ cond b true (a || l)
or_later true true l = refl
or_later true false l = refl
or_later false true l = refl
or_later false false l = refl

-- one element more
any_push : (p : ℕ → Bool) (xs : List ℕ) (y : ℕ) → list_any p (xs ++ (y ∷ [])) ≡ cond (p y) true (list_any p xs)
any_push p [] y = or_none (p y)
any_push p (x ∷ xs) y = ap (λ (b : Bool). p x || b) (any_push p xs y) ∙ or_later (p x) (p y) (list_any p xs)

range_more : (n : ℕ) → range_with_len 0 (suc n) ≡ range_with_len 0 n ++ (n ∷ [])
range_more n =
    ap (range_with_len 0) (sym (add-one n)) ∙ sym (map-id (range_with_len 0 (n + 1)))
    ∙ map-range_with_len_more (λ k. k) 0 n n (omega arith)
    ∙ ap (λ (xs : List ℕ). xs ++ (n ∷ [])) (map-id (range_with_len 0 n))

-- some block below n is near
pub near_any : (c : Card) (n : ℕ) → list_any (λ b. ltb c.shape.endurance (erase_count_at c b + 128)) (range_with_len 0 n) ≡ near_worn n c
unfolding near_worn
near_any c zero = refl
near_any c (suc n) =
    let near : ℕ → Bool = λ b. ltb c.shape.endurance (erase_count_at c b + 128) in
    ap (list_any near) (range_more n) ∙ any_push near (range_with_len 0 n) n ∙ ap (λ (b : Bool). cond (near n) true b) (near_any c n)

-- the next block can be cleared
pub clears_next :
    (c k : Card) (n : ℕ) → n < block_count c → near_worn (block_count c) c ≡ false → k ≡ cleared_below n c →
    (n < block_count k) × (erase_count_at k n < k.shape.endurance)
clears_next c k n h w e =
    let can = can_clear n c h (omega (arith, far_from_worn (block_count c) c w n h)) in
    rw e (can.block, can.below)

clearing_low : (t : Bool) → cond t 1 0 ≤ 1
clearing_low true = omega arith
clearing_low false = omega arith

-- and is one block more
pub clears_more :
    (c k j : Card) (n e f : ℕ) → k ≡ cleared_below n c → e ≡ clearing_below n c → e ≤ n → f ≡ clearing k n → j ≡ cleared k n →
    (e + f ≡ clearing_below (n + 1) c) × (j ≡ cleared_below (n + 1) c) × (e + f ≤ n + 1)
clears_more c k j n e f is sum low g h =
    let more = clearing_below_more n c in
    let same : clearing k n ≡ clearing (cleared_below n c) n = ap (λ (x : Card). clearing x n) is in
    let little = clearing_low (ltb 0 (floor_at k n)) in
    (omega arith, h ∙ ap (λ (x : Card). cleared x n) is ∙ sym (cleared_below_more n c), omega arith)
