-- The place of the first block that is open, as the rules find it.
use Rattle.std.proofs.Common.{◌≡◌, ℕ, suc, ◌+◌, Bool, true, false, cond, not, ◌&&◌, eqb, ltb, List, [], ◌∷◌, map, length, Some, None, Option, sym, refl, ap, ◌∙◌, inl, inr, add-zero, zero-add, arith, rules, tests}
use Rattle.std.specs.List.{enumerate_from, position_or_len}
use Rattle.std.proofs.lemmas.Bool.{cases_lt, lt-ltb, le-ltb}
use Rattle.std.proofs.lemmas.Iterator.{YieldsList-from_slice}
use Rattle.std.proofs.lemmas.Iterator.Consumers.{YieldsList-from_enumerate}
use Rattle.std.proofs.lemmas.Iterator.Search.{position_from_yields_List}
use Rattle.rules.specs.Moves.{open_block}
use Rattle.store.specs.declared.slot.RegionBlock.{RegionBlock}
use Rattle.store.specs.View.{slots_of}
use Rattle.store.proofs.SlotLaws.{slots_length}
use Rattle.store.proofs.maps.Maps.open_block.Goals as goal

module _ (pages reserve : ℕ) where
  -- whether a block is open, by its place
  abbrev is_open : ℕ × RegionBlock → Bool
  is_open p = not (eqb p.0 reserve) && ltb p.1.used pages

  -- the place, from n on, after p blocks that are not open, of so many blocks
  after : ℕ → ℕ → ℕ → Option ℕ
  after n len p = cond (ltb p len) (Some (n + p)) None

  -- one block more before the first open one
  after_more : (n len p : ℕ) → after n (1 + len) (1 + p) ≡ after (n + 1) len p
  unfolding after
  after_more n len p =
      let z : n + (1 + p) ≡ n + 1 + p = omega arith in
      elim (cases_lt p len) [
        | inl h ↦
            ap (λ (b : Bool). cond b (Some (n + (1 + p))) None) (lt-ltb (1 + p) (1 + len) (omega arith)) ∙ ap Some z
            ∙ sym (ap (λ (b : Bool). cond b (Some (n + 1 + p)) None) (lt-ltb p len h))
        | inr h ↦
            ap (λ (b : Bool). cond b (Some (n + (1 + p))) None) (le-ltb (1 + p) (1 + len) (omega arith))
            ∙ sym (ap (λ (b : Bool). cond b (Some (n + 1 + p)) None) (le-ltb p len h))
      ]

  -- what the rules make of a first block
  or_later : ℕ → Option ℕ → Bool → Option ℕ
  or_later n later here = elim here as (λ _. Option ℕ) [ true ↦ Some n | false ↦ later ]

  first_open :
      (n : ℕ) (rows : List RegionBlock) →
      after n (length (enumerate_from n rows)) (position_or_len is_open (enumerate_from n rows)) ≡ open_block pages reserve n (map slots_of rows)
  unfolding open_block after or_later
  first_open n [] = refl
  first_open n (k ∷ rows) = step (first_open (n + 1) rows) (is_open (n, k)) refl
    where
      rest : List (ℕ × RegionBlock)
      rest = enumerate_from (n + 1) rows

      -- the test of the first block, as the rules have it
      same : (not (eqb n reserve) && ltb (length (slots_of k)) pages) ≡ is_open (n, k)
      same = ap (λ (j : ℕ). not (eqb n reserve) && ltb j pages) (slots_length k)

      step : after (n + 1) (length rest) (position_or_len is_open rest) ≡ open_block pages reserve (n + 1) (map slots_of rows) → (b : Bool) → is_open (n, k) ≡ b →
          after n (length (enumerate_from n (k ∷ rows))) (position_or_len is_open (enumerate_from n (k ∷ rows))) ≡ open_block pages reserve n (map slots_of (k ∷ rows))
      step below true e =
          ap (λ (b : Bool). after n (suc (length rest)) (cond (not b) (1 + position_or_len is_open rest) 0)) e
          ∙ ap (λ (b : Bool). cond b (Some (n + 0)) None) (lt-ltb 0 (suc (length rest)) (omega arith)) ∙ ap Some (add-zero n)
          ∙ sym (ap (or_later n (open_block pages reserve (n + 1) (map slots_of rows))) (same ∙ e))
      step below false e =
          ap (λ (b : Bool). after n (suc (length rest)) (cond (not b) (1 + position_or_len is_open rest) 0)) e
          ∙ ap (λ (j : ℕ). after n j (1 + position_or_len is_open rest)) (omega arith)
          ∙ after_more n (length rest) (position_or_len is_open rest) ∙ below
          ∙ sym (ap (or_later n (open_block pages reserve (n + 1) (map slots_of rows))) (same ∙ e))

pub returns : goal.returns
unfolding after
returns c =
    let m = c.args.self.now in
    let rows = c.rows.result.now in
    let p = position_or_len (is_open m.pages m.reserve) (enumerate_from 0 rows) in
    position_from_yields_List (is_open m.pages m.reserve) _ _ c.position.result c.position.ensures.ran
    (YieldsList-from_enumerate (YieldsList-from_slice rows (cc)) (cc)) (λ x b q k. search (rules, tests))
    ∙ ap (λ (j : ℕ). cond (ltb p (length (enumerate_from 0 rows))) (Some j) None) (sym (zero-add p))
    ∙ first_open m.pages m.reserve 0 rows
    ∙ ap (λ (t : List RegionBlock). open_block m.pages m.reserve 0 (map slots_of t)) c.rows.ensures
