-- Sets of pages as numbers: page i counts 2^i.
use Rattle.std.specs.Prelude.{ℕ, zero, suc, ◌+◌, ◌*◌, ◌/◌, ◌%◌, ◌^◌, Bool, cond, ◌==◌}

-- whether a set has page i: bit i of the number
unfoldable pub has : ℕ → ℕ → Bool
has set i = (set / 2 ^ i % 2) == 1

-- the set of those pages below n that a test picks
unfoldable pub set_of : ℕ → (ℕ → Bool) → ℕ
set_of zero picks = 0
set_of (suc n) picks = cond (picks 0) 1 0 + 2 * set_of n (λ i. picks (suc i))

-- how many pages below n a set has
unfoldable pub pages_in : ℕ → ℕ → ℕ
pages_in zero set = 0
pages_in (suc n) set = pages_in n set + cond (has set n) 1 0
