-- Lists that are made by a function of the place: equal to another, or with one place changed.
use Rattle.std.proofs.Common.{◌≡◌, ℕ, ◌<◌, ◌≢◌, List, map, length, get_or, set, replicate, sym, ap, ◌∙◌, ⊎_elim, arith}
use Rattle.std.specs.List.{range_with_len}
use Rattle.std.proofs.lemmas.List.{length-set, get_or-set_same, get_or-set_other, length-replicate, get_or-replicate}
use Rattle.std.proofs.lemmas.List.FromFn.{length-map-range_with_len, get_or-map-range_with_len, fill_by_all}
use Rattle.std.proofs.lemmas.Bool.{cases_eq}

module _ {X : Type 0} (f : ℕ → X) (n : ℕ) where
  pub counting_at : (k : ℕ) (d : X) → k < n → get_or (map f (range_with_len 0 n)) k d ≡ f k
  counting_at k d h = get_or-map-range_with_len f 0 n k k d h (omega arith)

  pub counting_replicate : (y : X) → ((k : ℕ) → k < n → f k ≡ y) → map f (range_with_len 0 n) ≡ replicate n y
  counting_replicate y h =
      sym (fill_by_all f (replicate n y) n y (length-replicate n y) (λ k l. get_or-replicate n k y y l ∙ sym (h k l)))

module _ {X : Type 0} (f g : ℕ → X) (n : ℕ) where
  pub counting_same : ((k : ℕ) → k < n → f k ≡ g k) → map f (range_with_len 0 n) ≡ map g (range_with_len 0 n)
  counting_same h =
      fill_by_all g (map f (range_with_len 0 n)) n (f 0) (length-map-range_with_len f 0 n) (λ k l. counting_at f n k (f 0) l ∙ h k l)

  pub counting_set :
      (i : ℕ) (y : X) → i < n → g i ≡ y → ((k : ℕ) → k < n → k ≢ i → g k ≡ f k) →
      map g (range_with_len 0 n) ≡ set (map f (range_with_len 0 n)) i y
  counting_set i y h e same =
      let xs : List X = map f (range_with_len 0 n) in
      let o : i < length xs = rw (length-map-range_with_len f 0 n) h in
      sym
      (fill_by_all g (set xs i y) n y (length-set xs i y ∙ length-map-range_with_len f 0 n)
      (λ k l.
      ⊎_elim
      (λ (q : k ≡ i). ap (λ j. get_or (set xs i y) j y) q ∙ get_or-set_same xs i y y o ∙ sym (ap g q ∙ e))
      (λ (ne : k ≢ i). get_or-set_other xs i k y y ne ∙ counting_at f n k y l ∙ sym (same k l ne))
      (cases_eq k i)))
