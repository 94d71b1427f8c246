-- The choice of the greatest: it finds a place, no element counts more than the one there, and that one counts at least the mean.
use Rattle.std.proofs.Common.{◌≡◌, ℕ, suc, ◌*◌, ◌<◌, ◌≤◌, true, false, ltb, ◌⊎◌, List, [], ◌∷◌, length, get_or, Some, sum_by, refl, ap, ◌∙◌, inl, inr, arith}
use Rattle.std.specs.List.{All}
use Rattle.std.proofs.lemmas.List.Elements.{All-nil, All-cons, All-weaker}
use Rattle.std.proofs.lemmas.List.Sums.{sum_by-le}
use Rattle.std.proofs.lemmas.List.{get_or_default}
use Rattle.std.proofs.lemmas.Bool.{ltb-true, ltb-false, cases_Bool, cond-true, cond-false}
use Rattle.rules.specs.Choice.{against, greatest}

-- the greatest of a list stands at place k
pub record Top {X : Type 0} (count : X → ℕ) (xs : List X) (d : X) (k : ℕ) : Type 0 where
  pub found : greatest count xs ≡ Some k
  pub inside : k < length xs
  pub most : All (λ y. count y ≤ count (get_or xs k d)) xs

module _ {X : Type 0} (f : X → ℕ) where
  -- one more element in front, which counts less than the greatest or does not
  joined :
      (x : X) (xs : List X) (d : X) (k : ℕ) → Top f xs d k →
      (ltb (f x) (f (get_or xs k x)) ≡ true) ⊎ (ltb (f x) (f (get_or xs k x)) ≡ false) → (j : ℕ) × Top f (x ∷ xs) d j
  unfolding greatest
  joined x xs d k t (inl e) =
      let same : f (get_or xs k x) ≡ f (get_or xs k d) = ap f (get_or_default xs k x d t.inside) in (
        suc k,
        record {
          found = ap (against f x xs) t.found ∙ cond-true (ltb (f x) (f (get_or xs k x))) (Some (suc k)) (Some 0) e;
          inside = omega (arith, t.inside);
          most = All-cons (λ y. f y ≤ f (get_or xs k d)) x xs (omega (arith, ltb-true (f x) (f (get_or xs k x)) e)) t.most;
        },
      )
  joined x xs d k t (inr e) =
      let same : f (get_or xs k x) ≡ f (get_or xs k d) = ap f (get_or_default xs k x d t.inside) in (
        0,
        record {
          found = ap (against f x xs) t.found ∙ cond-false (ltb (f x) (f (get_or xs k x))) (Some (suc k)) (Some 0) e;
          inside = omega arith;
          most =
              All-cons (λ y. f y ≤ f x) x xs (omega arith)
              (All-weaker (λ y. f y ≤ f (get_or xs k d)) (λ y. f y ≤ f x) (λ y l. omega (arith, ltb-false (f x) (f (get_or xs k x)) e)) xs t.most);
        },
      )

  pub top : (x : X) (xs : List X) (d : X) → (k : ℕ) × Top f (x ∷ xs) d k
  unfolding greatest
  top x [] d = (0, record { found = refl; inside = omega arith; most = All-cons (λ y. f y ≤ f x) x [] (omega arith) (All-nil (λ y. f y ≤ f x)) })
  top x (y ∷ ys) d =
      let r = top y ys d in
      joined x (y ∷ ys) d r.0 r.1 (cases_Bool (ltb (f x) (f (get_or (y ∷ ys) r.0 x))))

  -- the greatest is at least the mean
  pub top_share : (xs : List X) (d : X) (k : ℕ) → Top f xs d k → sum_by f xs ≤ length xs * f (get_or xs k d)
  top_share xs d k t = sum_by-le f (f (get_or xs k d)) xs t.most
