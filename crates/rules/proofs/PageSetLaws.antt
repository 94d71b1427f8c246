-- The bits of a page set: what the operations on the number do to its pages, and that a set is known by its pages.
use Rattle.std.proofs.Common.{◌≡◌, ℕ, zero, suc, ◌+◌, ◌-◌, ◌*◌, ◌/◌, ◌%◌, ◌^◌, ◌<◌, ◌≤◌, Bool, true, cond, not, ◌&&◌, ◌||◌, eqb, ltb, ◌⊎◌, sym, refl, ap, ◌∙◌, inl, inr, ⊎_elim, arith}
use mathlib.Core.Bool.{or_comm}
use native.Mathlib.Nat.{pow-succ', pow-le-pow_right, div-eq_of_lt}
use lib.Bits.{bit_and, bit_or}
use lib.Count.{ones, ones_step}
use Rattle.std.proofs.lemmas.Nat.{and_mask, or_shr, and_shr, or_mod, and_mod, or_lt, and_le_l, one_shl, pow_pos, pow_below, le-div}
use Rattle.std.proofs.lemmas.Bool.{cases_eq, cases_lt, eq-eqb, ne_eqb, lt-ltb, le-ltb}
use Rattle.std.proofs.lemmas.Bool.Decides.{nat_tests}
use Rattle.rules.specs.Sets.{has, set_of, pages_in}
use Rattle.rules.proofs.SetLaws.{has_zero, has_suc, has_none}

-- ---- one bit

pub has_bit : (s i : ℕ) → eqb (bit_and (s / 2 ^ i) 1) 1 ≡ has s i
unfolding has
has_bit s i = ap (λ (n : ℕ). eqb n 1) (and_mask (s / 2 ^ i) 1)

bit_cases : (n : ℕ) → (n % 2 ≡ 0) ⊎ (n % 2 ≡ 1)
bit_cases n = ⊎_elim inl (λ (ne : n % 2 ≡ 0 → ⊥). inr (omega arith)) (cases_eq (n % 2) 0)

-- what two numbers of one bit each make, by cases
by_bits : (P : ℕ → ℕ → Type 0) → P 0 0 → P 0 1 → P 1 0 → P 1 1 → (a b : ℕ) → P (a % 2) (b % 2)
by_bits P p q r s a b =
    elim (bit_cases a) [
      | inl e ↦ elim (bit_cases b) [ inl f ↦ rw (e, f) p | inr f ↦ rw (e, f) q ]
      | inr e ↦ elim (bit_cases b) [ inl f ↦ rw (e, f) r | inr f ↦ rw (e, f) s ]
    ]

or_bit : (a b : ℕ) → eqb (bit_or a b % 2) 1 ≡ (eqb (a % 2) 1 || eqb (b % 2) 1)
or_bit a b =
    rw (or_mod a b 1) (by_bits (λ x y. eqb (bit_or x y) 1 ≡ (eqb x 1 || eqb y 1)) refl refl refl refl a b)

and_bit : (a b : ℕ) → eqb (bit_and a b % 2) 1 ≡ (eqb (a % 2) 1 && eqb (b % 2) 1)
and_bit a b =
    rw (and_mod a b 1) (by_bits (λ x y. eqb (bit_and x y) 1 ≡ (eqb x 1 && eqb y 1)) refl refl refl refl a b)

-- ---- unions and cuts

has_or : (a b j : ℕ) → has (bit_or a b) j ≡ (has a j || has b j)
unfolding has
has_or a b j = rw (or_shr a b j) (or_bit (a / 2 ^ j) (b / 2 ^ j))

has_and : (a b j : ℕ) → has (bit_and a b) j ≡ (has a j && has b j)
unfolding has
has_and a b j = rw (and_shr a b j) (and_bit (a / 2 ^ j) (b / 2 ^ j))

-- the set of one page
has_one : (p j : ℕ) → has (2 ^ p) j ≡ eqb j p
has_one zero zero = has_zero 1
has_one zero (suc j) = has_suc 1 j ∙ has_none j ∙ sym (ne_eqb (suc j) 0 (λ e. omega arith))
has_one (suc p) zero =
    let e : 2 ^ suc p % 2 ≡ 0 = omega (arith, pow-succ' 2 p) in
    has_zero (2 ^ suc p) ∙ ap (λ (n : ℕ). eqb n 1) e ∙ sym (ne_eqb 0 (suc p) (λ q. omega arith))
has_one (suc p) (suc j) =
    let e : 2 ^ suc p / 2 ≡ 2 ^ p = omega (arith, pow-succ' 2 p) in
    let same : eqb j p ≡ eqb (suc j) (suc p) = grind (arith, nat_tests) in
    has_suc (2 ^ suc p) j ∙ ap (λ (n : ℕ). has n j) e ∙ has_one p j ∙ same

-- the set of all pages below n but those of s
has_others : (n s x j : ℕ) → x + s + 1 ≡ 2 ^ n → j < n → has x j ≡ not (has s j)
has_others zero s x j e h = absurd (omega arith)
has_others (suc n) s x zero e h =
    let odd : x % 2 + s % 2 ≡ 1 = omega (arith, pow-succ' 2 n) in
    has_zero x
    ∙ elim (bit_cases s) [
      | inl q ↦ let p : x % 2 ≡ 1 = omega arith in rw (p, has_zero s, q) refl
      | inr q ↦ let p : x % 2 ≡ 0 = omega arith in rw (p, has_zero s, q) refl
    ]
has_others (suc n) s x (suc j) e h =
    has_suc x j ∙ has_others n (s / 2) (x / 2) j (omega (arith, pow-succ' 2 n)) (omega arith) ∙ ap not (sym (has_suc s j))

-- ---- a set is known by its pages

pub set_is : (n s : ℕ) (picks : ℕ → Bool) → s < 2 ^ n → ((k : ℕ) → k < n → has s k ≡ picks k) → s ≡ set_of n picks
unfolding set_of
set_is zero s picks h p = omega arith
set_is (suc n) s picks h p =
    let half : s / 2 ≡ set_of n (λ i. picks (suc i)) =
    set_is n (s / 2) (λ i. picks (suc i)) (omega (arith, pow-succ' 2 n)) (λ k l. sym (has_suc s k) ∙ p (suc k) (omega arith)) in
    let low : s % 2 ≡ cond (picks 0) 1 0 =
    elim (bit_cases s) [
      | inl e ↦ e ∙ ap (λ (b : Bool). cond b 1 0) (ap (λ (x : ℕ). eqb x 1) (sym e) ∙ sym (has_zero s) ∙ p 0 (omega arith))
      | inr e ↦ e ∙ ap (λ (b : Bool). cond b 1 0) (ap (λ (x : ℕ). eqb x 1) (sym e) ∙ sym (has_zero s) ∙ p 0 (omega arith))
    ] in
    omega arith

-- ---- the operations on 64 bits

pub with_is :
    (s p : ℕ) → s < 2 ^ 64 → p < 64 → bit_or s ((1 * 2 ^ p) % 2 ^ 64) ≡ set_of 64 (λ j. eqb j p || has s j)
with_is s p h l =
    rw (one_shl p 64 l)
    (set_is 64 (bit_or s (2 ^ p)) (λ j. eqb j p || has s j) (or_lt 64 s (2 ^ p) h (pow_below p 64 l))
    (λ k _. has_or s (2 ^ p) k ∙ ap (λ (b : Bool). has s k || b) (has_one p k) ∙ or_comm (has s k) (eqb k p)))

pub with_none : (s p : ℕ) → s < 2 ^ 64 → 64 ≤ p → s ≡ set_of 64 (λ j. eqb j p || has s j)
with_none s p h l =
    set_is 64 s (λ j. eqb j p || has s j) h (λ k m. ap (λ (b : Bool). b || has s k) (sym (ne_eqb k p (λ e. omega arith))))

pub without_is :
    (s t : ℕ) → s < 2 ^ 64 → t < 2 ^ 64 → bit_and s (2 ^ 64 - 1 - t) ≡ set_of 64 (λ j. has s j && not (has t j))
without_is s t h l =
    let x = 2 ^ 64 - 1 - t in
    set_is 64 (bit_and s x) (λ j. has s j && not (has t j)) (omega (arith, and_le_l s x))
    (λ k m. has_and s x k ∙ ap (λ (b : Bool). has s k && b) (has_others 64 t x k (omega arith) m))

-- ---- how many pages a set has

pages_step : (n g : ℕ) → pages_in (suc n) g ≡ g % 2 + pages_in n (g / 2)
unfolding pages_in
pages_step zero g =
    rw (has_zero g) (elim (bit_cases g) [ inl e ↦ rw e refl | inr e ↦ rw e refl ])
pages_step (suc n) g = omega (arith, pages_step n g, ap {B = ℕ} (λ (b : Bool). cond b 1 0) (has_suc g n))

pub ones_pages : (n g : ℕ) → g < 2 ^ n → ones g ≡ pages_in n g
unfolding pages_in ones
ones_pages zero g h = let e : g ≡ 0 = omega arith in rw e refl
ones_pages (suc n) g h =
    ones_step g
    ∙ ap (λ (k : ℕ). g % 2 + k) (ones_pages n (g / 2) (omega (arith, pow-succ' 2 n)))
    ∙ sym (pages_step n g)

-- a set of pages below m has as many below any n from m on
pub pages_same : (m n g : ℕ) → g < 2 ^ m → m ≤ n → pages_in n g ≡ pages_in m g
pages_same m n g h l =
    let up : 2 ^ m ≤ 2 ^ n = pow-le-pow_right (omega arith) l in
    sym (ones_pages n g (omega arith)) ∙ ones_pages m g h

-- ---- sets of pages below n

pub within_high : (s n : ℕ) → s < 2 ^ 64 → 64 ≤ n → ltb s (2 ^ n) ≡ true
within_high s n h l =
    let up : 2 ^ 64 ≤ 2 ^ n = pow-le-pow_right (omega arith) l in
    lt-ltb s (2 ^ n) (omega arith)

pub within_low : (s n : ℕ) → eqb (s / 2 ^ n) 0 ≡ ltb s (2 ^ n)
within_low s n =
    ⊎_elim
    (λ (l : s < 2 ^ n). eq-eqb (s / 2 ^ n) 0 (div-eq_of_lt l) ∙ sym (lt-ltb s (2 ^ n) l))
    (λ (l : 2 ^ n ≤ s).
    let one : 1 ≤ s / 2 ^ n = le-div 1 s (2 ^ n) (pow_pos n) (omega arith) in
    ne_eqb (s / 2 ^ n) 0 (λ e. omega arith) ∙ sym (le-ltb s (2 ^ n) l))
    (cases_lt s (2 ^ n))
