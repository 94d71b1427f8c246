-- The choice of the greatest, step by step: the place so far is the first of the greatest counts so far.
use Rattle.std.proofs.Common.{◌≡◌, ℕ, zero, suc, add-one, ◌+◌, ◌<◌, ◌≤◌, Bool, true, cond, ltb, ◌⊎◌, List, [], ◌∷◌, map, length, get_or, Some, None, Option, refl, ap, ◌∙◌, inl, inr, ⊎_elim, arith}
use Rattle.std.proofs.lemmas.List.{get_or_default, get_or_past}
use Rattle.std.proofs.lemmas.Bool.{lt-ltb, le-ltb, cases_lt}
use Rattle.rules.specs.Choice.{against, greatest}
use Rattle.rules.proofs.Greatest.{top}

-- place b, of count m, is the first greatest of the first i
pub record First {X : Type 0} (f : X → ℕ) (xs : List X) (i b m : ℕ) : Type 0 where
  pub before : b < i
  pub count : (d : X) → m ≡ f (get_or xs b d)
  pub most : (k : ℕ) (d : X) → k < i → f (get_or xs k d) ≤ m
  pub lower : (k : ℕ) (d : X) → k < b → f (get_or xs k d) < m

below_next : (k i : ℕ) → k < i + 1 → (k < i) ⊎ (k ≡ i)
below_next k i h = ⊎_elim inl (λ (l : i ≤ k). inr (omega arith)) (cases_lt k i)

module _ {X : Type 0} (f : X → ℕ) (xs : List X) where
  -- the count of an element, read at any default
  read : (i : ℕ) (x : X) → i < length xs → x ≡ get_or xs i x → (d : X) → f x ≡ f (get_or xs i d)
  read i x h e d = ap f (e ∙ get_or_default xs i x d h)

  -- an element of what comes after the first
  pub read_rest : (x : X) (ys : List X) (i : ℕ) (y : X) → xs ≡ x ∷ ys → y ≡ get_or ys i y → y ≡ get_or xs (i + 1) y
  read_rest x ys i y e h = rw (e, add-one) h

  pub first_none : (x : X) → 0 < length xs → x ≡ get_or xs 0 x → First f xs 1 0 (f x)
  first_none x h e =
      record {
        before = omega arith;
        count = read 0 x h e;
        most = λ k d l. let z : k ≡ 0 = omega arith in rw z (omega (arith, read 0 x h e d));
        lower = λ k d l. absurd (omega arith);
      }

  -- an element that counts no more
  pub first_keeps :
      (i b m : ℕ) (x : X) → First f xs i b m → i < length xs → x ≡ get_or xs i x → f x ≤ m → First f xs (i + 1) b m
  first_keeps i b m x r h e l =
      record {
        before = omega (arith, r.before);
        count = r.count;
        most = λ k d q.
            ⊎_elim (λ (p : k < i). r.most k d p) (λ (p : k ≡ i). rw p (omega (arith, read i x h e d))) (below_next k i q);
        lower = r.lower;
      }

  -- an element that counts more
  pub first_takes :
      (i b m : ℕ) (x : X) → First f xs i b m → i < length xs → x ≡ get_or xs i x → m < f x → First f xs (i + 1) i (f x)
  first_takes i b m x r h e l =
      record {
        before = omega arith;
        count = read i x h e;
        most = λ k d q.
            ⊎_elim (λ (p : k < i). omega (arith, r.most k d p)) (λ (p : k ≡ i). rw p (omega (arith, read i x h e d))) (below_next k i q);
        lower = λ k d q. omega (arith, r.most k d q);
      }

pub first_greatest :
    {X : Type 0} (f : X → ℕ) (xs : List X) (b m : ℕ) → First f xs (length xs) b m → greatest f xs ≡ Some b
unfolding greatest
first_greatest f [] b m r = absurd (omega (arith, r.before))
first_greatest f (x ∷ []) b m r = let z : b ≡ 0 = omega (arith, r.before) in rw z refl
first_greatest f (x ∷ y ∷ ys) zero m r = go (greatest f (y ∷ ys))
  where
    low : (k : ℕ) → f (get_or (y ∷ ys) k x) ≤ f x
    low k =
        ⊎_elim
        (λ (l : k < length (y ∷ ys)). omega (arith, r.most (suc k) x (omega arith), r.count x))
        (λ (l : length (y ∷ ys) ≤ k). omega (arith, ap f (get_or_past (y ∷ ys) k x l)))
        (cases_lt k (length (y ∷ ys)))

    go : (o : Option ℕ) → against f x (y ∷ ys) o ≡ Some 0
    go None = refl
    go (Some k) =
        ap (λ (t : Bool). cond t (Some (suc k)) (Some 0)) (le-ltb (f x) (f (get_or (y ∷ ys) k x)) (low k))
first_greatest f (x ∷ y ∷ ys) (suc b) m r =
    let e = first_greatest f (y ∷ ys) b m (
    record {
      before = omega (arith, r.before);
      count = r.count;
      most = λ k d q. r.most (suc k) d (omega arith);
      lower = λ k d q. r.lower (suc k) d (omega arith);
    }) in
    let l : ltb (f x) (f (get_or (y ∷ ys) b x)) ≡ true =
    lt-ltb (f x) (f (get_or (y ∷ ys) b x)) (omega (arith, r.lower 0 x (omega arith), r.count x)) in
    ap (against f x (y ∷ ys)) e ∙ ap (λ (t : Bool). cond t (Some (suc b)) (Some 0)) l

pub greatest_none : {X : Type 0} (f : X → ℕ) → greatest f [] ≡ None
unfolding greatest
greatest_none f = refl

-- the greatest of what a function makes of each element stands where the element does
pub greatest_map :
    {X Y : Type 0} (f : Y → ℕ) (h : X → Y) (xs : List X) → greatest (λ x. f (h x)) xs ≡ greatest f (map h xs)
unfolding greatest
greatest_map f h [] = refl
greatest_map {X} {Y} f h (x ∷ xs) = go (greatest f (map h xs)) (greatest_map f h xs)
  where
    at : (k : ℕ) (xs : List X) → h (get_or xs k x) ≡ get_or (map h xs) k (h x)
    at k [] = refl
    at zero (y ∷ ys) = refl
    at (suc k) (y ∷ ys) = at k ys

    go :
        (o : Option ℕ) → greatest (λ x. f (h x)) xs ≡ o →
        against (λ x. f (h x)) x xs (greatest (λ x. f (h x)) xs) ≡ against f (h x) (map h xs) o
    go None e = ap (against (λ x. f (h x)) x xs) e
    go (Some k) e =
        ap (against (λ x. f (h x)) x xs) e
        ∙ ap (λ (y : Y). cond (ltb (f (h x)) (f y)) (Some (suc k)) (Some 0)) (at k xs)

-- the place that is found is one of the list
pub greatest_in : {X : Type 0} (f : X → ℕ) (xs : List X) (k : ℕ) → greatest f xs ≡ Some k → k < length xs
greatest_in f [] k e = absurd (let n = greatest_none f in let z : ◌≡◌ {A = ℕ} 0 1 = cc in omega arith)
greatest_in f (x ∷ xs) k e =
    let t = top f x xs x in
    let found = t.1.found in
    let same : t.0 ≡ k = cc in
    omega (arith, t.1.inside)
