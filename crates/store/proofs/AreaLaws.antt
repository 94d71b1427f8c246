-- The part of a work area that is lent to a move, and set to zero afterwards.
use Rattle.std.proofs.Common.{◌≡◌, ℕ, ◌*◌, ◌≤◌, List, ◌++◌, length, take, drop, replicate, sym, ap, ◌∙◌, arith}
use Rattle.std.proofs.lemmas.List.{length-take-le}
use Rattle.rules.specs.State.{State}
use Rattle.rules.specs.Ready.{Ready}
use Rattle.store.specs.Calls.{block_bytes}

module _ (s : State) (n : ℕ) (area : List ℕ) (is : n ≡ s.pages * s.card.shape.size) (fits : s.pages * s.card.shape.size ≤ length area) where
  -- all of it is there
  pub lent_length : n ≡ length (take n area)
  lent_length = sym (length-take-le n area (omega arith))

  -- once it is wiped, the bytes of a block are zero and those beyond are as they were
  pub wiped :
      (part zeros : List ℕ) → Ready s → length part ≡ length (take n area) → zeros ≡ replicate (length part) 0 →
      zeros ++ drop n area ≡ replicate (block_bytes s.card) 0 ++ drop (block_bytes s.card) area
  wiped part zeros r same e =
      let all : n ≡ block_bytes s.card = is ∙ ap (λ (p : ℕ). p * s.card.shape.size) r.agrees.pages_are in
      ap (λ (xs : List ℕ). xs ++ drop n area) (e ∙ ap (λ (k : ℕ). replicate k 0) (same ∙ sym lent_length))
      ∙ ap (λ (k : ℕ). replicate k 0 ++ drop k area) all
