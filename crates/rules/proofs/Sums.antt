-- Sums over lists: pointwise laws, the exchange of two sums, and what a list that moves to another place changes.
use Rattle.std.proofs.Common.{◌≡◌, ℕ, ◌+◌, ◌*◌, ◌<◌, ◌≤◌, ◌≢◌, List, [], ◌∷◌, map, length, get_or, set, replicate, sum_by, sym, refl, ap, ◌∙◌, arith}
use Rattle.std.specs.List.{All}
use Rattle.std.proofs.lemmas.List.Folds.{sum_by-replicate}
use Rattle.std.proofs.lemmas.List.Sums.{sum_by-cons, sum_by-set}
use Rattle.std.proofs.lemmas.List.Elements.{All-head, All-tail}
use Rattle.std.proofs.lemmas.List.{length-set, get_or-set_other}

-- ---- pointwise laws

module _ {X : Type 0} where
  pub sum_same : (f g : X → ℕ) → ((x : X) → f x ≡ g x) → (xs : List X) → sum_by f xs ≡ sum_by g xs
  sum_same f g e [] = refl
  sum_same f g e (x ∷ xs) = omega (arith, sum_by-cons f x xs, sum_by-cons g x xs, e x, sum_same f g e xs)

  pub sum_add : (f g h : X → ℕ) → ((x : X) → f x + g x ≡ h x) → (xs : List X) → sum_by f xs + sum_by g xs ≡ sum_by h xs
  sum_add f g h e [] = refl
  sum_add f g h e (x ∷ xs) =
      omega (arith, sum_by-cons f x xs, sum_by-cons g x xs, sum_by-cons h x xs, e x, sum_add f g h e xs)

  pub sum_zero : (f : X → ℕ) → ((x : X) → f x ≡ 0) → (xs : List X) → sum_by f xs ≡ 0
  sum_zero f e [] = refl
  sum_zero f e (x ∷ xs) = omega (arith, sum_by-cons f x xs, e x, sum_zero f e xs)

  -- at the elements of a list of which something is known
  pub sum_le_on :
      (f g : X → ℕ) (P : X → Type 0) → ((x : X) → P x → f x ≤ g x) → (xs : List X) → All P xs → sum_by f xs ≤ sum_by g xs
  sum_le_on f g P e [] a = omega arith
  sum_le_on f g P e (x ∷ xs) a =
      omega (arith, sum_by-cons f x xs, sum_by-cons g x xs, e x (All-head P x xs a), sum_le_on f g P e xs (All-tail P x xs a))

  pub sum_map : {Y : Type 0} (f : Y → ℕ) (g : X → Y) (xs : List X) → sum_by f (map g xs) ≡ sum_by (λ x. f (g x)) xs
  sum_map f g [] = refl
  sum_map f g (x ∷ xs) =
      omega (arith, sum_by-cons f (g x) (map g xs), sum_by-cons (λ x. f (g x)) x xs, sum_map f g xs)

  pub sum_replicate_zero : (f : X → ℕ) (y : X) → f y ≡ 0 → (n : ℕ) → sum_by f (replicate n y) ≡ 0
  sum_replicate_zero f y e n = sum_by-replicate f n y ∙ omega (arith, ap (λ k. n * k) e)

-- ---- the order of two sums may be exchanged

pub sum_swap :
    {X Y : Type 0} (g : Y → X → ℕ) (ys : List Y) (xs : List X) →
    sum_by (λ y. sum_by (g y) xs) ys ≡ sum_by (λ x. sum_by (λ y. g y x) ys) xs
sum_swap g ys [] = sum_zero (λ y. 0) (λ y. refl) ys
sum_swap g ys (x ∷ xs) =
    sym (sum_add (λ y. g y x) (λ y. sum_by (g y) xs) (λ y. sum_by (g y) (x ∷ xs)) (λ y. sym (sum_by-cons (g y) x xs)) ys)
    ∙ omega (arith, sum_swap g ys xs, sum_by-cons (λ x. sum_by (λ y. g y x) ys) x xs)

-- ---- one list takes an empty place, and its own place is emptied

pub moved_sum :
    {X : Type 0} (f : List X → ℕ) (t : List (List X)) (r v : ℕ) (ks : List X) → r < length t → v < length t → v ≢ r →
    get_or t r [] ≡ [] → f [] ≡ 0 →
    sum_by f (set (set t r ks) v []) + f (get_or t v []) ≡ sum_by f t + f ks
moved_sum f t r v ks hr hv ne blank z =
    let lt : v < length (set t r ks) = rw (length-set t r ks) hv in
    let a = sum_by-set f (set t r ks) v [] [] lt in
    let b = sum_by-set f t r ks [] hr in
    let e : f (get_or (set t r ks) v []) ≡ f (get_or t v []) = ap f (get_or-set_other t r v ks [] ne) in
    let g : f (get_or t r []) ≡ 0 = ap f blank ∙ z in
    omega arith
