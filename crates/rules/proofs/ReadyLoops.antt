-- A loop of rounds: it ends after at most 2 × n of them with n slots free, and until then every next round can be made.
use Rattle.std.proofs.Common.{◌≡◌, ℕ, zero, suc, ◌+◌, ◌-◌, ◌*◌, ◌<◌, ◌≤◌, Bool, true, false, ltb, List, [], ◌∷◌, ◌++◌, refl, ap, ◌∙◌, ap₂, inl, inr, mul-le-mul_right, add-one, arith}
use Rattle.std.proofs.lemmas.List.Sums.{sum_by_push}
use Rattle.std.proofs.lemmas.Bool.{cases_eq, ltb-false, lt-ltb, le-ltb}
use Rattle.rules.specs.State.{State, capacity, dead_of, free_of}
use Rattle.rules.specs.Moves.{Round, Work, fullest, compaction_of, merge_of, round, round_as, more, rounds_for, at_rest, one_compaction, one_merge, compactions_in, merges_in, erases_in}
use Rattle.rules.specs.Calls.{near_worn, watched}
use Rattle.rules.specs.Ready.{Ready}
use Rattle.rules.proofs.CardCounts.{clearing_le}
use Rattle.rules.proofs.Works.{round_either, rounds_rule}
use Rattle.rules.proofs.Space.{room_for}
use Rattle.rules.proofs.ReadyMoves.{ready_good}
use Rattle.rules.proofs.ReadyRounds.{Roundable, roundable, Passes, passes_none, passes_as, passes_rounds}

-- ---- the rounds one by one

-- a round compacts where a slot is dead, and else merges
pub round_compacts : (w : Work) → 0 < dead_of w.state → round w ≡ round_as true w
unfolding round
round_compacts w h = ap (λ (b : Bool). round_as b w) (lt-ltb 0 (dead_of w.state) h)

pub round_merges : (w : Work) → dead_of w.state ≡ 0 → round w ≡ round_as false w
unfolding round
round_merges w h = ap (λ (b : Bool). round_as b w) (le-ltb 0 (dead_of w.state) (omega arith))

-- before the first
pub rounds_none : (n : ℕ) (w : Work) → rounds_for 0 n w ≡ w
unfolding rounds_for
rounds_none n w = refl

-- while fewer than n slots are free, one round more
more_suc : (n k : ℕ) (w : Work) → free_of (rounds_for k n w).state < n → rounds_for (suc k) n w ≡ round (rounds_for k n w)
unfolding rounds_for
more_suc n zero w h = ap (λ (b : Bool). more b (rounds_for zero n) w) (lt-ltb (free_of w.state) n h)
more_suc n (suc k) w h = go (ltb (free_of w.state) n) refl h (more_suc n k (round w))
  where
    go :
        (b : Bool) → ltb (free_of w.state) n ≡ b → free_of (more b (rounds_for k n) w).state < n →
        (free_of (rounds_for k n (round w)).state < n → rounds_for (suc k) n (round w) ≡ round (rounds_for k n (round w))) →
        more b (rounds_for (suc k) n) w ≡ round (more b (rounds_for k n) w)
    go true e l rest = rest l
    go false e l rest = absurd (omega (arith, ltb-false (free_of w.state) n e))

pub rounds_more : (n k : ℕ) (w : Work) → free_of (rounds_for k n w).state < n → rounds_for (k + 1) n w ≡ round (rounds_for k n w)
rounds_more n k w h = ap (λ (j : ℕ). rounds_for j n w) (add-one k) ∙ more_suc n k w h

-- once n are free, no round more
pub rounds_end : (n k m : ℕ) (w : Work) → n ≤ free_of (rounds_for k n w).state → k ≤ m → rounds_for m n w ≡ rounds_for k n w
unfolding rounds_for
rounds_end n zero zero w h l = refl
rounds_end n zero (suc m) w h l = ap (λ (b : Bool). more b (rounds_for m n) w) (le-ltb (free_of w.state) n h)
rounds_end n (suc k) zero w h l = absurd (omega arith)
rounds_end n (suc k) (suc m) w h l =
    go (ltb (free_of w.state) n) h (λ (p : n ≤ free_of (rounds_for k n (round w)).state). rounds_end n k m (round w) p (omega arith))
  where
    go :
        (b : Bool) → n ≤ free_of (more b (rounds_for k n) w).state →
        (n ≤ free_of (rounds_for k n (round w)).state → rounds_for m n (round w) ≡ rounds_for k n (round w)) →
        more b (rounds_for m n) w ≡ more b (rounds_for k n) w
    go true p rest = rest p
    go false p rest = refl

-- ---- what is counted of them

-- one round more in a list
pub record Added (rs : List Round) (r : Round) : Type 0 where
  pub compactions : compactions_in (rs ++ (r ∷ [])) ≡ compactions_in rs + one_compaction r
  pub merges : merges_in (rs ++ (r ∷ [])) ≡ merges_in rs + one_merge r
  pub erases : erases_in (rs ++ (r ∷ [])) ≡ erases_in rs + r.erases

pub added : (rs : List Round) (r : Round) → Added rs r
added rs r =
    record {
      compactions = sum_by_push one_compaction rs r;
      merges = sum_by_push one_merge rs r;
      erases = sum_by_push (λ (x : Round). x.erases) rs r;
    }

-- how many rounds were made
abbrev pub made : List Round → ℕ
made rs = compactions_in rs + merges_in rs

-- a round is one more, with at most one erase
pub record Counted (w x : Work) : Type 0 where
  pub one : made x.rounds ≡ made w.rounds + 1
  pub erases : erases_in x.rounds ≤ erases_in w.rounds + 1

pub round_counted : (w : Work) → Counted w (round w)
round_counted w =
    let s = w.state in
    let rs = w.rounds in
    round_either (Counted w) w
    (λ some.
    let a = added rs (compaction_of s) in
    record { one = omega (arith, a.compactions, a.merges); erases = omega (arith, a.erases) })
    (λ none.
    let a = added rs (merge_of s) in
    record { one = omega (arith, a.compactions, a.merges); erases = omega (arith, a.erases, clearing_le s.card (fullest s)) })

-- k rounds at the most
pub record Few (k : ℕ) (w : Work) : Type 0 where
  pub rounds : made w.rounds ≤ k
  pub erases : erases_in w.rounds ≤ k

pub few_rounds : (n k : ℕ) (s : State) → Few k (rounds_for k n (at_rest s))
few_rounds n k s =
    rounds_rule n
    (λ j w. (made w.rounds + j ≤ k) × (erases_in w.rounds + j ≤ k)) (Few k)
    (λ j w p _. let c = round_counted w in (omega (arith, c.one), omega (arith, c.erases)))
    (λ j w p _. record { rounds = omega arith; erases = omega arith })
    (λ w p. record { rounds = omega arith; erases = omega arith })
    k (at_rest s) (omega arith, omega arith)

-- ---- a loop that makes room for n pages

-- the state after k rounds
abbrev pub after_rounds : ℕ → ℕ → State → State
after_rounds k n s = (rounds_for k n (at_rest s)).state

-- what a loop that makes room for n pages passes
pub record Passable (n : ℕ) (s : State) : Type 0 where
  pub ready : (k : ℕ) → k ≤ 2 * n → Ready (after_rounds k n s)
  -- while there is no room, a round is left and can be made
  pub left : (k : ℕ) → k ≤ 2 * n → free_of (after_rounds k n s) < n → k < 2 * n
  pub next : (k : ℕ) → k ≤ 2 * n → free_of (after_rounds k n s) < n → Roundable (after_rounds k n s)
  -- in the end there is room
  pub room : n ≤ free_of (after_rounds (2 * n) n s)
  pub few_compactions : compactions_in (rounds_for (2 * n) n (at_rest s)).rounds ≤ n
  pub few_merges : merges_in (rounds_for (2 * n) n (at_rest s)).rounds ≤ compactions_in (rounds_for (2 * n) n (at_rest s)).rounds
  pub few_erases : erases_in (rounds_for (2 * n) n (at_rest s)).rounds ≤ 2 * n

-- a block has at most as many pages as the region has slots
pub pages_fit : (s : State) → Ready s → s.pages ≤ capacity s.plan s.pages
pages_fit s r =
    let wide : 1 * s.pages ≤ capacity s.plan s.pages = mul-le-mul_right s.pages (omega (arith, r.two_blocks)) in
    omega arith

module _ (n : ℕ) (s : State) (r : Ready s) (lasts : near_worn (watched s) s.card ≡ false) (few : n ≤ s.pages) where
  -- at most 128 rounds
  bound : 2 * n ≤ 128
  bound = omega (arith, r.agrees.pages_are, r.sound.pages_high)

  pub passes_after : (k : ℕ) → k ≤ 2 * n → Passes s (128 - k) (after_rounds k n s)
  passes_after k h =
      passes_rounds n s (128 - k) k (at_rest s) (passes_as s 128 (k + (128 - k)) s (omega (arith, bound)) (passes_none s r lasts))

  pub passable : Passable n s
  passable =
      let e = room_for n s (ready_good s r) (omega (arith, pages_fit s r)) in
      let left : (k : ℕ) → k ≤ 2 * n → free_of (after_rounds k n s) < n → k < 2 * n =
      λ k h short.
      elim (cases_eq k (2 * n)) [
        | inl q ↦
            let same : free_of (after_rounds k n s) ≡ free_of (after_rounds (2 * n) n s) = ap (λ (j : ℕ). free_of (after_rounds j n s)) q in
            absurd (omega (arith, e.room))
        | inr ne ↦ omega arith
      ] in
      record {
        ready = λ k h. (passes_after k h).ready;
        left = left;
        next = λ k h short.
            let p = passes_after k h in
            let same : capacity (after_rounds k n s).plan (after_rounds k n s).pages ≡ capacity s.plan s.pages = ap₂ capacity p.plan_same p.pages_same in
            roundable (after_rounds k n s) p.ready
            (λ b l. omega (arith, p.spare b l, left k h short, bound)) (omega (arith, pages_fit s r));
        room = e.room;
        few_compactions = e.few_compactions;
        few_merges = e.few_merges;
        few_erases = (few_rounds n (2 * n) s).erases;
      }

-- one round at rest, while at most as many slots are free as the idle limit
pub idle_round :
    (s : State) → Ready s → near_worn (watched s) s.card ≡ false → free_of s ≤ s.plan.idle → s.plan.idle < capacity s.plan s.pages →
    Roundable s
idle_round s r lasts h low =
    roundable s r (λ b l. omega (arith, (passes_none s r lasts).spare b l)) (omega arith)
