-- Rows of a memory, and what a write to a part of it leaves of them.
use Rattle.std.proofs.Common.{◌≡◌, ℕ, ◌+◌, ◌-◌, ◌*◌, ◌<◌, ◌≤◌, ◌≢◌, ◌⊎◌, List, ◌++◌, length, take, drop, replicate, sym, refl, ap, ◌∙◌, inl, inr, ⊎_elim, add-mul, one-mul, arith}
use borrow.Rule.Slice.PartMut.{put_mid}
use Rattle.std.proofs.lemmas.List.{length-append, drop-take, drop-drop, drop_at, length-take-le, length-drop, length-replicate, take-append-le, drop-append-le, take-replicate, drop-replicate, append_assoc, take_at}
use Rattle.std.proofs.lemmas.Slice.{overwrites, take-put_mid_below, between-put_mid}
use Rattle.std.proofs.lemmas.Nat.{mul-le}
use Rattle.std.proofs.lemmas.Bool.{cases_order}

-- a row ends before a later one begins
pub rows_apart : (s j k : ℕ) → j < k → j * s + s ≤ k * s
rows_apart s j k h =
    let q = mul-le (j + 1) s k s (omega arith) (omega arith) in
    let e = add-mul j 1 s in
    omega (arith, one-mul s)

-- different rows: one ends before the other begins
pub rows_order : (s j k : ℕ) → j ≢ k → (j * s + s ≤ k * s) ⊎ (k * s + s ≤ j * s)
rows_order s j k ne =
    ⊎_elim (λ (e : j ≡ k). absurd (ne e))
    (⊎_elim (λ (h : j < k). inl (rows_apart s j k h)) (λ (h : k < j). inr (rows_apart s k j h)))
    (cases_order j k)

pub length_put : (m ys : List ℕ) (a l : ℕ) → a + l ≤ length m → length ys ≡ l → length (put_mid a l m ys) ≡ length m
length_put m ys a l h e = grind (arith, overwrites)

-- a memory in which l bytes from a on were written
module _ (m ys : List ℕ) (a l : ℕ) (fits : a + l ≤ length m) (len : length ys ≡ l) where
  pub part_before : (o s : ℕ) → o + s ≤ a → take s (drop o (put_mid a l m ys)) ≡ take s (drop o m)
  part_before o s h =
      sym (drop-take o s (put_mid a l m ys))
      ∙ ap (drop o) (take-put_mid_below a l m ys (o + s) h (omega arith))
      ∙ drop-take o s m

  pub part_after : (o s : ℕ) → a + l ≤ o → take s (drop o (put_mid a l m ys)) ≡ take s (drop o m)
  part_after o s h = grind (arith, overwrites)

  pub part_at : take l (drop a (put_mid a l m ys)) ≡ ys
  part_at =
      let n : a + l - a ≡ l = omega arith in
      ap (λ k. take k (drop a (put_mid a l m ys))) (sym n) ∙ between-put_mid a l m ys (a + l) (omega arith) (len ∙ sym n)

  pub part_within : (o s : ℕ) → a ≤ o → o + s ≤ a + l → take s (drop o (put_mid a l m ys)) ≡ take s (drop (o - a) ys)
  part_within o s h k =
      let e : a + (o - a) ≡ o = omega arith in
      let d : drop o (put_mid a l m ys) ≡ drop (o - a) (drop a (put_mid a l m ys)) = sym (drop-drop (o - a) a (put_mid a l m ys) ∙ ap (λ j. drop j (put_mid a l m ys)) e) in
      let f : drop a (put_mid a l m ys) ≡ ys ++ drop l (drop a m) = drop_at (take a m) (ys ++ drop l (drop a m)) a (length-take-le a m (omega arith)) in
      ap (take s) (d ∙ ap (drop (o - a)) f ∙ drop-append-le (o - a) ys (drop l (drop a m)) (omega arith))
      ∙ take-append-le s (drop (o - a) ys) (drop l (drop a m)) (rw (length-drop (o - a) ys) (omega arith))

  -- a part that lies before or after what was written
  pub part_outside : (o s : ℕ) → (o + s ≤ a) ⊎ (a + l ≤ o) → take s (drop o (put_mid a l m ys)) ≡ take s (drop o m)
  part_outside o s = ⊎_elim (part_before o s) (part_after o s)

-- a part of what was filled with one byte
pub part_filled :
    (m : List ℕ) (a l o s v : ℕ) → a + l ≤ length m → a ≤ o → o + s ≤ a + l →
    take s (drop o (put_mid a l m (replicate l v))) ≡ replicate s v
part_filled m a l o s v fits h k =
    part_within m (replicate l v) a l fits (length-replicate l v) o s h k
    ∙ ap (take s) (drop-replicate (o - a) l v) ∙ take-replicate s (l - (o - a)) v (omega arith)

-- a write just behind a front of the memory
pub put_after :
    (front rest ys : List ℕ) (a l : ℕ) → length front ≡ a → put_mid a l (front ++ rest) ys ≡ (front ++ ys) ++ drop l rest
put_after front rest ys a l e =
    rw (take_at front rest a e, drop_at front rest a e) (sym (append_assoc front ys (drop l rest)))

-- two writes, one just behind the other
pub put_put :
    (m xs ys : List ℕ) (a k l : ℕ) → a ≤ length m → length xs ≡ k →
    put_mid (a + k) l (put_mid a k m xs) ys ≡ put_mid a (k + l) m (xs ++ ys)
put_put m xs ys a k l fits len =
    let front : length (take a m ++ xs) ≡ a + k = rw (length-append (take a m) xs, length-take-le a m fits, len) refl in
    ap (λ (y : List ℕ). put_mid (a + k) l y ys) (sym (append_assoc (take a m) xs (drop k (drop a m))))
    ∙ put_after (take a m ++ xs) (drop k (drop a m)) ys (a + k) l front
    ∙ rw (append_assoc (take a m) xs ys, append_assoc (take a m) (xs ++ ys) (drop l (drop k (drop a m))), drop-drop l k (drop a m)) refl
