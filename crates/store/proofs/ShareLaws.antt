-- The shares of the data blocks, counted slot by slot.
use Rattle.std.proofs.Common.{◌≡◌, ℕ, ◌+◌, ◌<◌, ◌≤◌, cond, eqb, List, length, get_or, take, set, replicate, sum_by, sym, refl, ap, ◌∙◌, inl, inr, arith}
use Rattle.std.specs.List.{range_with_len}
use Rattle.std.proofs.lemmas.List.{length-set, get_or-set_same, get_or-set_other, length-take-le, get_or-take, length-replicate, get_or-replicate}
use Rattle.std.proofs.lemmas.Bool.{cases_eq, eq-eqb, ne_eqb}
use Rattle.std.proofs.lemmas.List.FromFn.{fill_by_all}
use Rattle.rules.specs.Choice.{greatest}
use Rattle.rules.specs.State.{Slot, share_of, one_of}
use Rattle.rules.proofs.ChoiceLaws.{greatest_map}

-- the share of block d in the blocks passed and in the slots passed of one block more
abbrev pub so_far : List (List Slot) → List Slot → ℕ → ℕ
so_far t xs d = share_of t d + sum_by (one_of d) xs

-- each share is as a function tells, and at most b
pub record Shares (xs : List ℕ) (b : ℕ) (f : ℕ → ℕ) : Type 0 where
  pub wide : length xs ≡ 128
  pub each : (d : ℕ) → d < 128 → get_or xs d 0 ≡ f d
  pub low : (d : ℕ) → d < 128 → get_or xs d 0 ≤ b

pub shares_none : Shares (replicate 128 0) 0 (λ d. 0)
shares_none =
    let none : (d : ℕ) → d < 128 → get_or (replicate 128 0) d 0 ≡ 0 = λ d l. get_or-replicate 128 d 0 0 l in
    record { wide = length-replicate {A = ℕ} 128 0; each = none; low = λ d l. omega (arith, none d l) }

-- the same of another function with the same values
pub shares_as :
    (xs : List ℕ) (b b' : ℕ) (f g : ℕ → ℕ) → ((d : ℕ) → f d ≡ g d) → b ≤ b' → Shares xs b f → Shares xs b' g
shares_as xs b b' f g e h s =
    record { wide = s.wide; each = λ d l. s.each d l ∙ e d; low = λ d l. omega (arith, s.low d l) }

-- one more for block e
pub shares_more :
    (xs : List ℕ) (b : ℕ) (f : ℕ → ℕ) (e : ℕ) → e < 128 → Shares xs b f →
    Shares (set xs e (get_or xs e 0 + 1)) (b + 1) (λ d. f d + cond (eqb e d) 1 0)
shares_more xs b f e h s =
    record {
      wide = length-set xs e x ∙ s.wide;
      each = λ d l.
          elim (cases_eq d e) [
            | inl q ↦
                let one : ◌≡◌ {A = ℕ} (cond (eqb e d) 1 0) 1 = rw (eq-eqb e d (sym q)) refl in
                let same : f d ≡ f e = ap f q in
                here d q ∙ omega (arith, s.each e h)
            | inr ne ↦
                let none : ◌≡◌ {A = ℕ} (cond (eqb e d) 1 0) 0 = rw (ne_eqb e d (λ q. ne (sym q))) refl in
                there d ne ∙ omega (arith, s.each d l)
          ];
      low = λ d l.
          elim (cases_eq d e) [
            | inl q ↦ omega (arith, here d q, s.low e h)
            | inr ne ↦ omega (arith, there d ne, s.low d l)
          ];
    }
  where
    x : ℕ
    x = get_or xs e 0 + 1

    here : (d : ℕ) → d ≡ e → get_or (set xs e x) d 0 ≡ get_or xs e 0 + 1
    here d q = ap (λ (k : ℕ). get_or (set xs e x) k 0) q ∙ get_or-set_same xs e x 0 (omega (arith, s.wide))

    there : (d : ℕ) → (d ≡ e → ⊥) → get_or (set xs e x) d 0 ≡ get_or xs d 0
    there d ne = get_or-set_other xs e d x 0 ne

-- the greatest of the first n shares is the greatest of what the function tells of the blocks below n
pub shares_greatest :
    (xs : List ℕ) (f : ℕ → ℕ) (n : ℕ) → length xs ≡ 128 → n ≤ 128 → ((d : ℕ) → d < 128 → get_or xs d 0 ≡ f d) →
    greatest (λ k. k) (take n xs) ≡ greatest f (range_with_len 0 n)
shares_greatest xs f n w h e =
    ap (greatest (λ k. k))
    (fill_by_all f (take n xs) n 0 (length-take-le n xs (omega arith))
    (λ k l. get_or-take n xs k 0 l ∙ e k (omega arith)))
    ∙ sym (greatest_map (λ k. k) f (range_with_len 0 n))
