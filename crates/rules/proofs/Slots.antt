-- Lists of slots that fit the plan: live slots are pages of it, no list is longer than a block, and every move keeps that.
use Rattle.std.proofs.Common.{ℕ, ◌<◌, ◌≤◌, Bool, true, false, cond, List, [], ◌∷◌, ◌++◌, map, length, arith}
use Rattle.std.specs.List.{All}
use Rattle.std.proofs.lemmas.List.{length-map, length_push}
use Rattle.std.proofs.lemmas.List.Elements.{All-nil, All-cons, All-head, All-tail, All-map, All-weaker, All-push}
use Rattle.rules.specs.State.{Slot, live, dead}
use Rattle.rules.specs.Moves.{retire, kept}
use Rattle.rules.specs.Ready.{Within, Filed}

pub filed_none : (l n : ℕ) → Filed l n []
filed_none l n = record { within = All-nil (Within l n); short = omega arith }

within_kept : (l n : ℕ) (xs : List Slot) → All (Within l n) xs → All (Within l n) (kept xs)
unfolding kept
within_kept l n [] a = All-nil (Within l n)
within_kept l n (live d i ∷ xs) a =
    let w = Within l n in
    All-cons w (live d i) (kept xs) (All-head w (live d i) xs a) (within_kept l n xs (All-tail w (live d i) xs a))
within_kept l n (dead ∷ xs) a = within_kept l n xs (All-tail (Within l n) dead xs a)

pub length_kept : (xs : List Slot) → length (kept xs) ≤ length xs
unfolding kept
length_kept [] = omega arith
length_kept (live d i ∷ xs) = omega (arith, length_kept xs)
length_kept (dead ∷ xs) = omega (arith, length_kept xs)

pub filed_kept : (l n : ℕ) (xs : List Slot) → Filed l n xs → Filed l n (kept xs)
filed_kept l n xs f =
    record { within = within_kept l n xs f.within; short = omega (arith, length_kept xs, f.short) }

within_retire : (l n : ℕ) (picks : ℕ → ℕ → Bool) (x : Slot) → Within l n x → Within l n (retire picks x)
unfolding retire
within_retire l n picks (live d i) h = go (picks d i)
  where
    go : (b : Bool) → Within l n (cond b dead (live d i))
    go true = tt
    go false = h
within_retire l n picks dead h = tt

pub filed_retire : (l n : ℕ) (picks : ℕ → ℕ → Bool) (xs : List Slot) → Filed l n xs → Filed l n (map (retire picks) xs)
filed_retire l n picks xs f =
    record {
      within =
          All-map (Within l n) (retire picks) xs
          (All-weaker (Within l n) (λ x. Within l n (retire picks x)) (within_retire l n picks) xs f.within);
      short = omega (arith, length-map xs (retire picks), f.short);
    }

pub filed_push :
    (l n : ℕ) (xs : List Slot) (d i : ℕ) → Filed l n xs → d < l → i < n → length xs < n → Filed l n (xs ++ (live d i ∷ []))
filed_push l n xs d i f hd hi room =
    record {
      within = All-push (Within l n) xs (live d i) f.within (hd, hi);
      short = omega (arith, length_push xs (live d i));
    }
