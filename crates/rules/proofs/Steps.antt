-- A call is refused with a number, or does what it is meant to do.
use Rattle.std.proofs.Common.{◌≡◌, ℕ, zero, suc, ◌<◌, [], length, refl, ap, ◌∙◌, arith}
use Rattle.rules.specs.Sets.{has}
use Rattle.rules.specs.State.{State, held}
use Rattle.rules.specs.Moves.{dropped}
use Rattle.rules.specs.Calls.{Call, flush, read, discard, idle, Answer, refused, row_of, flush_number, read_number, discard_number, idle_number, flushed, rested, gives, told, unless, step}

-- the number with which a call is refused, 0 if it is not
abbrev pub number_for : State → Call → ℕ
number_for s (flush d g bytes area) = flush_number s d g (length bytes) area
number_for s (read d i len) = read_number s d i len
number_for s (discard d g) = discard_number s d g
number_for s (idle area) = idle_number s area

-- what a call that is not refused answers and leaves
abbrev pub meant_by : State → Call → Answer × State
meant_by s (flush d g bytes area) = flushed s d g (row_of s.card.shape.size g bytes)
meant_by s (read d i len) = (gives s.card (held s d i), s)
meant_by s (discard d g) = (told 0 [], dropped s d (has g))
meant_by s (idle area) = rested s

pub step_is : (s : State) (c : Call) → step s c ≡ unless (number_for s c) s (meant_by s c)
unfolding step
step_is s (flush d g bytes area) = refl
step_is s (read d i len) = refl
step_is s (discard d g) = refl
step_is s (idle area) = refl

-- a call that is not refused
pub step_meant : (s : State) (c : Call) → number_for s c ≡ 0 → step s c ≡ meant_by s c
step_meant s c e = step_is s c ∙ ap (λ (n : ℕ). unless n s (meant_by s c)) e

-- a call that is
pub step_refused : (s : State) (c : Call) (n : ℕ) → number_for s c ≡ n → 0 < n → step s c ≡ (refused n, s)
step_refused s c zero e h = absurd (omega arith)
step_refused s c (suc n) e h = step_is s c ∙ ap (λ (m : ℕ). unless m s (meant_by s c)) e
