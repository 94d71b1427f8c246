-- The choice of the greatest, for records of any kind that tell a count.
use Rattle.std.specs.Prelude.{ℕ, suc, cond, List, [], ◌∷◌, Some, None, Option, nat_lt, slice_index_or}

-- the first record against the best of those after it, if there are any: the first wins a tie
abbrev pub against : {X : Type 0} → (X → ℕ) → X → List X → Option ℕ → Option ℕ
against count x xs None = Some 0
against count x xs (Some k) = cond (nat_lt (count x) (count (slice_index_or xs k x))) (Some (suc k)) (Some 0)

-- the place of the greatest count, the lowest place on a tie; none for an empty list
unfoldable pub greatest : {X : Type 0} → (X → ℕ) → List X → Option ℕ
greatest count [] = None
greatest count (x ∷ xs) = against count x xs (greatest count xs)
