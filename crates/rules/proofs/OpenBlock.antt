-- Where a slot is free, an open block is found: a block of the region that is neither the reserve nor full.
use Rattle.std.proofs.Common.{◌≡◌, ℕ, suc, ◌+◌, ◌-◌, ◌*◌, ◌<◌, ◌≤◌, Bool, true, false, cond, not, ◌&&◌, eqb, ltb, leb, ◌≢◌, ◌⊎◌, List, [], ◌∷◌, length, get_or, Some, None, sum_by, Option, sym, refl, ap, ◌∙◌, subst, inl, inr, suc-mul, add-mul, zero-mul, arith}
use Rattle.std.proofs.lemmas.List.Sums.{sum_by-cons}
use Rattle.std.proofs.lemmas.Bool.{and_parts, and_cases, not-true, not-false, eqb-true, eqb-false, ltb-true, ltb-false}
use Rattle.std.proofs.lemmas.Bool.Decides.{nat_tests}
use Rattle.rules.specs.State.{Slot, State, free_of}
use Rattle.rules.specs.Moves.{open_block}
use Rattle.rules.proofs.Rounds.{Good}

-- the search takes the first block of a list, or goes on past it since it is the reserve or full
abbrev pub Tried : ℕ → ℕ → ℕ → List Slot → Option ℕ → Option ℕ → Type 0
Tried pages res at xs rest found =
    ((found ≡ Some at) × (at ≢ res) × (length xs < pages)) ⊎ ((found ≡ rest) × ((at ≡ res) ⊎ (pages ≤ length xs)))

pub tried :
    (pages res at : ℕ) (xs : List Slot) (xss : List (List Slot)) →
    Tried pages res at xs (open_block pages res (at + 1) xss) (open_block pages res at (xs ∷ xss))
unfolding open_block
tried pages res at xs xss = go (not (eqb at res) && ltb (length xs) pages) refl
  where
    go :
        (b : Bool) → (not (eqb at res) && ltb (length xs) pages) ≡ b →
        Tried pages res at xs (open_block pages res (at + 1) xss) (elim b as (λ _. Option ℕ) [ true ↦ Some at | false ↦ open_block pages res (at + 1) xss ])
    go true h =
        let p = and_parts (not (eqb at res)) (ltb (length xs) pages) h in
        inl (refl, eqb-false at res (not-true (eqb at res) p.0), ltb-true (length xs) pages p.1)
    go false h =
        inr (
          refl,
          elim (and_cases (not (eqb at res)) (ltb (length xs) pages) h) [
            | inl e ↦ inl (eqb-true at res (not-false (eqb at res) e))
            | inr e ↦ inr (ltb-false (length xs) pages e)
          ],
        )

-- block r is open, in a list of which the first block is number `at`
pub record Open (pages res at : ℕ) (t : List (List Slot)) (r : ℕ) : Type 0 where
  pub place : ℕ
  pub is : r ≡ at + place
  pub inside : place < length t
  pub apart : r ≢ res
  pub room : length (get_or t place []) < pages

pub open_is : (pages res at : ℕ) (t : List (List Slot)) (r : ℕ) → open_block pages res at t ≡ Some r → Open pages res at t r
unfolding open_block
open_is pages res at [] r e = absurd (let z : ◌≡◌ {A = ℕ} 0 1 = cc in omega arith)
open_is pages res at (xs ∷ xss) r e = go (tried pages res at xs xss) (open_is pages res (at + 1) xss r)
  where
    go :
        Tried pages res at xs (open_block pages res (at + 1) xss) (open_block pages res at (xs ∷ xss)) →
        (open_block pages res (at + 1) xss ≡ Some r → Open pages res (at + 1) xss r) → Open pages res at (xs ∷ xss) r
    go (inl h) rest =
        let same : at ≡ r = let f = h.0 in cc in
        record { place = 0; is = omega arith; inside = omega arith; apart = λ q. h.1 (same ∙ q); room = h.2 }
    go (inr h) rest =
        let o = rest (sym h.0 ∙ e) in
        record { place = suc o.place; is = omega (arith, o.is); inside = omega (arith, o.inside); apart = o.apart; room = o.room }

-- the slots that may be free though no block is open: the reserve's, if it is still to come
abbrev excused : ℕ → ℕ → ℕ → ℕ
excused pages res at = cond (leb at res) pages 0

-- no open block: all but the reserve are full
shut :
    (pages res at : ℕ) (t : List (List Slot)) → open_block pages res at t ≡ None →
    length t * pages ≤ sum_by length t + excused pages res at
shut pages res at [] e = omega (arith, zero-mul pages)
shut pages res at (xs ∷ xss) e = go (tried pages res at xs xss) (shut pages res (at + 1) xss)
  where
    m : suc (length xss) * pages ≡ length xss * pages + pages
    m = suc-mul (length xss) pages

    c : sum_by length (xs ∷ xss) ≡ length xs + sum_by length xss
    c = sum_by-cons length xs xss

    go :
        Tried pages res at xs (open_block pages res (at + 1) xss) (open_block pages res at (xs ∷ xss)) →
        (open_block pages res (at + 1) xss ≡ None → length xss * pages ≤ sum_by length xss + excused pages res (at + 1)) →
        length (xs ∷ xss) * pages ≤ sum_by length (xs ∷ xss) + excused pages res at
    go (inl h) rest = absurd (let z : ◌≡◌ {A = ℕ} 0 1 = let f = h.0 in cc in omega arith)
    go (inr h) rest =
        let r = rest (sym h.0 ∙ e) in
        let w = h.1 in
        grind (arith, nat_tests, m, c)

-- block r of the region is open for the next page
pub record OpenIn (s : State) (r : ℕ) : Type 0 where
  pub found : open_block s.pages s.reserve 0 s.table ≡ Some r
  pub inside : r < s.plan.region
  pub apart : r ≢ s.reserve
  pub room : length (get_or s.table r []) < s.pages

pub open_in : (s : State) → Good s → (r : ℕ) → open_block s.pages s.reserve 0 s.table ≡ Some r → OpenIn s r
open_in s g r e =
    let o = open_is s.pages s.reserve 0 s.table r e in
    let same : o.place ≡ r = omega (arith, o.is) in
    record {
      found = e;
      inside = omega (arith, o.inside, g.rows);
      apart = o.apart;
      room = subst (λ (k : ℕ). length (get_or s.table k []) < s.pages) same o.room;
    }

pub open_some : (s : State) → Good s → 0 < free_of s → (r : ℕ) × OpenIn s r
open_some s g h = go (open_block s.pages s.reserve 0 s.table) refl
  where
    go : (o : Option ℕ) → open_block s.pages s.reserve 0 s.table ≡ o → (r : ℕ) × OpenIn s r
    go (Some r) e = (r, open_in s g r e)
    go None e =
        let n = s.pages in
        let x = shut n s.reserve 0 s.table e in
        let all : length s.table * n ≡ (s.plan.region - 1 + 1) * n = ap (λ (k : ℕ). k * n) (omega (arith, g.rows, g.reserve_in)) in
        let split : (s.plan.region - 1 + 1) * n ≡ (s.plan.region - 1) * n + 1 * n = add-mul (s.plan.region - 1) 1 n in
        let le : excused n s.reserve 0 ≤ n = grind (arith, nat_tests) in
        absurd (omega arith)
