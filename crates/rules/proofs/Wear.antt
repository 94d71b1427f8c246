-- No call is refused for wear while each block has the ceiling of the run and 128 erases to spare.
use Rattle.std.proofs.Common.{◌≡◌, ℕ, zero, suc, ◌+◌, ◌<◌, ◌≤◌, Bool, true, false, cond, ltb, leb, List, [], ◌++◌, length, Some, None, Option, refl, ap, ◌∙◌, subst, ap₂, arith}
use Rattle.std.proofs.lemmas.Bool.{both_ways}
use Rattle.std.proofs.lemmas.Bool.Decides.{nat_tests}
use Rattle.flash.specs.Meaning.{Shape, block_count, erase_count_at}
use Rattle.rules.specs.Sets.{pages_in}
use Rattle.rules.specs.State.{State, free_of, held}
use Rattle.rules.specs.Moves.{Round}
use Rattle.rules.specs.Calls.{Call, flush, read, discard, idle, Answer, refused, done, near_worn, watched, read_number, discard_number, flushed_as, flushed, rested_as, rested, row_of, gives, unless, step, formatted}
use Rattle.rules.specs.Runs.{Log, Ran, still, after, accepted, large_in, small_in, large_groups_in, small_pages_in, ceiling}
use Rattle.rules.specs.Law.{NeverWorn, Lasts, Lasting}
use Rattle.rules.proofs.Works.{threshold_same}
use Rattle.rules.proofs.Space.{Ready, ready_moved}
use Rattle.rules.proofs.Accepted.{can_format, flush_worn, idle_worn, unworn}
use Rattle.rules.proofs.Steps.{number_for, meant_by, step_is}
use Rattle.rules.proofs.Accounts.{rounds_by, data_erases_by, Account, account_none, account_then}
use Rattle.rules.proofs.CallAccounts.{Booked, booked, large, small}
use Rattle.rules.proofs.Formatted.{Fresh, fresh_formatted}
use Rattle.rules.proofs.Ceiling.{account_ceiling, ceiling_more}

-- ---- which calls are refused for wear

-- the number in an answer, 0 if it is not a refusal
abbrev refusal_in : Answer → ℕ
refusal_in (refused n) = n
refusal_in (done r) = 0

-- a call that is carried out is not
meant_not : (s : State) (c : Call) → refusal_in (meant_by s c).0 ≡ 12 → ⊥
unfolding flushed rested
meant_not s (flush d g bytes area) e = go (ltb s.plan.threshold (pages_in s.pages g)) e
  where
    go : (b : Bool) → refusal_in (flushed_as b s d g (row_of s.card.shape.size g bytes) (pages_in s.pages g)).0 ≡ 12 → ⊥
    go true q = omega arith
    go false q = omega arith
meant_not s (read d i len) e = go (held s d i) e
  where
    go : (o : Option (ℕ × ℕ × ℕ)) → refusal_in (gives s.card o) ≡ 12 → ⊥
    go None q = omega arith
    go (Some p) q = omega arith
meant_not s (discard d g) e = omega arith
meant_not s (idle area) e = go (leb (free_of s) s.plan.idle) e
  where
    go : (b : Bool) → refusal_in (rested_as b s).0 ≡ 12 → ⊥
    go true q = omega arith
    go false q = omega arith

-- only a flush and an idle call are, and only where a block is near its endurance
number_worn : (s : State) (c : Call) → number_for s c ≡ 12 → near_worn (watched s) s.card ≡ true
unfolding read_number discard_number
number_worn s (flush d g bytes area) e = flush_worn s d g (length bytes) area e
number_worn s (read d i len) e = absurd (grind (arith, nat_tests))
number_worn s (discard d g) e = absurd (grind (arith, nat_tests))
number_worn s (idle area) e = idle_worn s area e

-- so an answer 12 tells of such a block
refused_worn : (s : State) (c : Call) → refusal_in (step s c).0 ≡ 12 → near_worn (watched s) s.card ≡ true
refused_worn s c e =
    number_worn s c (go (number_for s c) refl (subst (λ (x : Answer × State). refusal_in x.0 ≡ 12) (step_is s c) e))
  where
    go : (n : ℕ) → number_for s c ≡ n → refusal_in (unless n s (meant_by s c)).0 ≡ 12 → number_for s c ≡ 12
    go zero is q = absurd (meant_not s c q)
    go (suc n) is q = is ∙ q

-- ---- runs

-- so many large groups and small pages in all, from the state s on
module _ (s : State) (fresh : Fresh s) (g m : ℕ)
    (spare : (b : ℕ) → b < block_count s.card → erase_count_at s.card b + ceiling s.plan s.pages g m + 128 ≤ s.card.shape.endurance) where
  -- no block is near its endurance with a part of them
  part_unworn :
      (h k : ℕ) (rs : List Round) (n : ℕ) (t : State) → Account s h k rs n t → h ≤ g → k ≤ m → near_worn (watched t) t.card ≡ false
  part_unworn h k rs n t a hg km =
      let alike = a.leaves.card_alike in
      let e : t.card.shape.endurance ≡ s.card.shape.endurance = ap (λ (x : Shape). x.endurance) alike.shape_same in
      let c = account_ceiling s t h k rs n fresh a in
      let up = ceiling_more s.plan s.pages h g k m fresh.ready.quota_some hg km in
      unworn (watched t) t.card (λ b l. omega (arith, alike.each b, spare b (omega (arith, alike.blocks_same))))

  -- what is left of a run, of which so much is past
  rest_unworn :
      {t u : State} {log : Log} → Ran t log u → Ready t → (h k : ℕ) (rs : List Round) (n : ℕ) → Account s h k rs n t →
      h + large_groups_in s.plan.threshold s.pages log ≤ g → k + small_pages_in s.plan.threshold s.pages log ≤ m → NeverWorn log
  rest_unworn still r h k rs n a hg km = tt
  rest_unworn (after {s = t} {t = t'} {c = c} {a = x} {log = log} is rest) r h k rs n a hg km =
      let b : Booked t (large t c x) (small t c x) (rounds_by t c) (data_erases_by t c) (x, t') =
      subst (λ (y : Answer × State). Booked t (large t c y.0) (small t c y.0) (rounds_by t c) (data_erases_by t c) y) is (booked t c r) in
      let le : t.plan.threshold ≡ s.plan.threshold = threshold_same s t a.leaves in
      let large_same : large t c x ≡ cond (accepted x) (large_in s.plan.threshold s.pages c) 0 =
      ap₂ (λ (y z : ℕ). cond (accepted x) (large_in y z c) 0) le a.leaves.pages_same in
      let small_same : small t c x ≡ cond (accepted x) (small_in s.plan.threshold s.pages c) 0 =
      ap₂ (λ (y z : ℕ). cond (accepted x) (small_in y z c) 0) le a.leaves.pages_same in (
        λ e.
            both_ways (near_worn (watched t) t.card) (part_unworn h k rs n t a (omega arith) (omega arith))
            (refused_worn t c (ap (λ (y : Answer × State). refusal_in y.0) is ∙ ap refusal_in e)),
        rest_unworn rest (ready_moved t t' r b.account.leaves) (h + large t c x) (k + small t c x) (rs ++ rounds_by t c) (n + data_erases_by t c)
            (account_then s t t' h (large t c x) k (small t c x) rs (rounds_by t c) n (data_erases_by t c) a b.account)
            (omega arith) (omega arith),
      )

pub lasts : (s : State) → Fresh s → Lasts s
lasts s fresh log end ran spare =
    let t = s.plan.threshold in
    rest_unworn s fresh (large_groups_in t s.pages log) (small_pages_in t s.pages log) spare ran fresh.ready 0 0 [] 0 (account_none s fresh.ready.good)
    (omega arith) (omega arith)

pub lasting : Lasting
lasting p c so e = lasts (formatted p c) (fresh_formatted p c (can_format p c e))
