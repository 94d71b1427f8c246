-- Sets of pages: which pages a packed set has, how large it is, and how many pages a set can have.
use Rattle.std.proofs.Common.{◌≡◌, ℕ, zero, suc, ◌+◌, ◌*◌, ◌/◌, ◌%◌, ◌^◌, ◌<◌, ◌≤◌, Bool, true, false, cond, eqb, sym, ap, ◌∙◌, subst, inl, inr, div-one, arith}
use native.Mathlib.Nat.{pow-succ', div-eq_of_lt, div-div-eq-div-mul, pow-le-pow_right}
use Rattle.std.proofs.lemmas.Bool.{cases_eq}
use Rattle.rules.specs.Sets.{has, set_of, pages_in}

-- ---- the bits of a set, from the low end

pub has_zero : (g : ℕ) → has g 0 ≡ eqb (g % 2) 1
unfolding has
has_zero g = ap (λ (n : ℕ). eqb (n % 2) 1) (div-one g)

pub has_suc : (g i : ℕ) → has g (suc i) ≡ has (g / 2) i
unfolding has
has_suc g i =
    ap (λ (n : ℕ). eqb (n % 2) 1) (ap (λ (n : ℕ). g / n) (pow-succ' 2 i) ∙ sym (div-div-eq-div-mul g 2 (2 ^ i)))

-- a set below 2^n has no page from n on
pub has_high : (n g i : ℕ) → g < 2 ^ n → n ≤ i → has g i ≡ false
unfolding has
has_high n g i h l =
    let up : 2 ^ n ≤ 2 ^ i = pow-le-pow_right (omega arith) l in
    ap (λ (q : ℕ). eqb (q % 2) 1) (div-eq_of_lt (omega arith))

pub has_none : (i : ℕ) → has 0 i ≡ false
has_none i = has_high 0 0 i (omega arith) (omega arith)

-- ---- packed sets

low_bit : (b : Bool) (x : ℕ) → eqb ((cond b 1 0 + 2 * x) % 2) 1 ≡ b
low_bit true x = let e : (1 + 2 * x) % 2 ≡ 1 = omega arith in rw e
low_bit false x = let e : (0 + 2 * x) % 2 ≡ 0 = omega arith in rw e

high_bits : (b : Bool) (x : ℕ) → (cond b 1 0 + 2 * x) / 2 ≡ x
high_bits true x = omega arith
high_bits false x = omega arith

bit_le : (b : Bool) → ◌≤◌ (cond b 1 0) 1
bit_le true = omega arith
bit_le false = omega arith

-- a packed set has the pages that the test picks
pub has_set_of : (n : ℕ) (picks : ℕ → Bool) (i : ℕ) → i < n → has (set_of n picks) i ≡ picks i
unfolding set_of
has_set_of zero picks i h = absurd (omega arith)
has_set_of (suc n) picks zero h =
    has_zero (set_of (suc n) picks) ∙ low_bit (picks 0) (set_of n (λ i. picks (suc i)))
has_set_of (suc n) picks (suc i) h =
    has_suc (set_of (suc n) picks) i
    ∙ ap (λ (g : ℕ). has g i) (high_bits (picks 0) (set_of n (λ i. picks (suc i))))
    ∙ has_set_of n (λ i. picks (suc i)) i (omega arith)

pub set_of_below : (n : ℕ) (picks : ℕ → Bool) → set_of n picks < 2 ^ n
unfolding set_of
set_of_below zero picks = omega arith
set_of_below (suc n) picks =
    omega (arith, set_of_below n (λ i. picks (suc i)), pow-succ' 2 n, bit_le (picks 0))

-- ---- how many pages a set has

-- a set has at most n pages below n
pub pages_le : (n g : ℕ) → pages_in n g ≤ n
unfolding pages_in
pages_le zero g = omega arith
pages_le (suc n) g = omega (arith, pages_le n g, bit_le (has g n))

pub pages_more : (g m n : ℕ) → m ≤ n → pages_in m g ≤ pages_in n g
unfolding pages_in
pages_more g m zero h = let e : 0 ≡ m = omega arith in subst (λ (x : ℕ). pages_in x g ≤ 0) e (omega arith)
pages_more g m (suc n) h =
    elim (cases_eq m (suc n)) [
      | inl q ↦ subst (λ (x : ℕ). pages_in x g ≤ pages_in (suc n) g) (sym q) (omega arith)
      | inr q ↦ omega (arith, pages_more g m n (omega arith))
    ]
