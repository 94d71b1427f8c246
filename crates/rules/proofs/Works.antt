-- What rounds of garbage collection add up to: every slot that they recover was dead, and each merge takes its share of the live ones.
use Rattle.std.proofs.Common.{◌≡◌, ℕ, zero, suc, ◌+◌, ◌*◌, ◌<◌, ◌≤◌, Bool, true, false, ltb, List, [], ◌∷◌, ◌++◌, sum_by, sym, refl, ap, subst, ap₂, add-mul, arith}
use Rattle.std.specs.List.{All}
use Rattle.std.proofs.lemmas.List.Sums.{sum_by-cons, sum_by_push}
use Rattle.std.proofs.lemmas.List.Elements.{All-nil, All-head, All-tail, All-push}
use Rattle.std.proofs.lemmas.Bool.{ltb-true, ltb-false}
use Rattle.rules.specs.declared.plan.Plan.{Plan}
use Rattle.rules.specs.State.{State, quota, live_of, dead_of, free_of}
use Rattle.rules.specs.Moves.{compaction, merge, Round, Work, compacted_at, rewritten, victim, fullest, no_row, compaction_of, merge_of, round, round_as, more, rounds_for, at_rest, one_compaction, one_merge, compactions_in, merges_in, erases_in, recovered_in}
use Rattle.rules.proofs.Counts.{all_slots}
use Rattle.rules.proofs.CardCounts.{clearing_le}
use Rattle.rules.proofs.Rounds.{Good, Moved, moved_none, moved_then, merging, compacting}

-- ---- how to show a fact of rounds

-- of one round: where a slot is dead it is a compaction, else a merge
pub round_either :
    (P : Work → Type 0) (w : Work) → (0 < dead_of w.state → P (round_as true w)) → (dead_of w.state ≡ 0 → P (round_as false w)) →
    P (round w)
unfolding round
round_either P w compacts merges = go (ltb 0 (dead_of w.state)) refl
  where
    go : (b : Bool) → ltb 0 (dead_of w.state) ≡ b → P (round_as b w)
    go true e = compacts (ltb-true 0 (dead_of w.state) e)
    go false e = merges (omega (arith, ltb-false 0 (dead_of w.state) e))

-- of rounds until n slots are free: P holds with k rounds left, and Q at the end
pub rounds_rule :
    (n : ℕ) (P : ℕ → Work → Type 0) (Q : Work → Type 0) →
    ((k : ℕ) (w : Work) → P (suc k) w → free_of w.state < n → P k (round w)) →
    ((k : ℕ) (w : Work) → P (suc k) w → n ≤ free_of w.state → Q w) → ((w : Work) → P 0 w → Q w) →
    (k : ℕ) (w : Work) → P k w → Q (rounds_for k n w)
unfolding rounds_for
rounds_rule n P Q one stop end zero w h = end w h
rounds_rule n P Q one stop end (suc k) w h =
    go (ltb (free_of w.state) n) refl (λ p. rounds_rule n P Q one stop end k (round w) p)
  where
    go : (b : Bool) → ltb (free_of w.state) n ≡ b → (P k (round w) → Q (rounds_for k n (round w))) → Q (more b (rounds_for k n) w)
    go true e rest = rest (one k w h (ltb-true (free_of w.state) n e))
    go false e rest = stop k w h (ltb-false (free_of w.state) n e)

-- ---- what is told of rounds

-- the dead slots that a round recovers
abbrev pub recovered : Round → ℕ
recovered r = elim r.kind [ compaction ↦ r.count | merge ↦ 0 ]

-- the data blocks that a round erases
abbrev pub data_erase : Round → ℕ
data_erase r = elim r.kind [ compaction ↦ 0 | merge ↦ r.erases ]

abbrev pub data_erases_in : List Round → ℕ
data_erases_in rs = sum_by data_erase rs

-- a compaction erases one block of the region and recovers a slot at least, a merge erases at most its data block
pub record Proper (r : Round) : Type 0 where
  pub erases_are : r.erases ≡ one_compaction r + data_erase r
  pub recovers : one_compaction r ≤ recovered r
  pub data_le : data_erase r ≤ one_merge r

-- the same of many rounds
pub record ProperSums (rs : List Round) : Type 0 where
  pub erases_are : erases_in rs ≡ compactions_in rs + data_erases_in rs
  pub recovers : compactions_in rs ≤ recovered_in rs
  pub data_le : data_erases_in rs ≤ merges_in rs

pub proper_sums : (rs : List Round) → All Proper rs → ProperSums rs
proper_sums [] a = record { erases_are = refl; recovers = omega arith; data_le = omega arith }
proper_sums (r ∷ rs) a =
    let p = All-head Proper r rs a in
    let s = proper_sums rs (All-tail Proper r rs a) in
    let c = sum_by-cons one_compaction r rs in
    let d = sum_by-cons data_erase r rs in
    record {
      erases_are = omega (arith, sum_by-cons (λ (x : Round). x.erases) r rs, p.erases_are, s.erases_are);
      recovers = omega (arith, sum_by-cons recovered r rs, p.recovers, s.recovers);
      data_le = omega (arith, sum_by-cons one_merge r rs, p.data_le, s.data_le);
    }

-- ---- the account of rounds that began at the state s, while q live slots at least stand before each merge

pub record Worked (q : ℕ) (s : State) (w : Work) : Type 0 where
  pub leaves : Moved (erases_in w.rounds) s w.state
  pub proper : All Proper w.rounds
  pub slots : live_of w.state + dead_of w.state + recovered_in w.rounds ≡ live_of s + dead_of s
  pub shares : merges_in w.rounds * q + live_of w.state * s.plan.data ≤ live_of s * s.plan.data

pub worked_none : (q : ℕ) (s : State) → Good s → Worked q s (at_rest s)
worked_none q s g = record { leaves = moved_none s g; proper = All-nil Proper; slots = omega arith; shares = omega arith }

-- one more round, with its move
one_more :
    (q : ℕ) (s : State) (w : Work) (r : Round) (t : State) → Worked q s w → Moved r.erases w.state t → Proper r →
    live_of t + dead_of t + recovered r ≡ live_of w.state + dead_of w.state →
    one_merge r * q + live_of t * s.plan.data ≤ live_of w.state * s.plan.data →
    Worked q s (record { state = t; rounds = w.rounds ++ (r ∷ []) })
one_more q s w r t h m p slots shares =
    let rs = w.rounds in
    let merges : merges_in (rs ++ (r ∷ [])) ≡ merges_in rs + one_merge r = sum_by_push one_merge rs r in
    let product : merges_in (rs ++ (r ∷ [])) * q ≡ (merges_in rs + one_merge r) * q = ap (λ (n : ℕ). n * q) merges in
    record {
      leaves =
          subst (λ (e : ℕ). Moved e s t) (sym (sum_by_push (λ (x : Round). x.erases) rs r))
          (moved_then (erases_in rs) r.erases s w.state t h.leaves m);
      proper = All-push Proper rs r h.proper p;
      slots = omega (arith, sum_by_push recovered rs r, h.slots);
      shares = omega (arith, add-mul (merges_in rs) (one_merge r) q, h.shares);
    }

pub worked_round :
    (q : ℕ) (s : State) (w : Work) → Worked q s w → (dead_of w.state ≡ 0 → q ≤ live_of w.state) → Worked q s (round w)
worked_round q s w h many =
    let u = w.state in
    let l : u.plan.data ≡ s.plan.data = ap (λ (p : Plan). p.data) h.leaves.plan_same in
    round_either (Worked q s) w
    (λ some.
    let c = compacting u h.leaves.good some in
    let t = compacted_at u (victim u) in
    let same : live_of t * s.plan.data ≡ live_of u * s.plan.data = ap (λ (n : ℕ). n * s.plan.data) c.live_same in
    one_more q s w (compaction_of u) t h c.leaves
    (record { erases_are = omega arith; recovers = c.freed.some; data_le = omega arith })
    (omega (arith, c.live_same, c.recovered)) (omega arith))
    (λ none.
    let m = merging u h.leaves.good in
    let d = fullest u in
    let t = rewritten u d no_row in
    let share : live_of t * s.plan.data + live_of u ≤ live_of u * s.plan.data =
    subst (λ (n : ℕ). live_of t * n + live_of u ≤ live_of u * n) l m.share in
    one_more q s w (merge_of u) t h m.leaves
    (record { erases_are = omega arith; recovers = omega arith; data_le = clearing_le u.card d })
    (omega (arith, m.slots)) (omega (arith, many none)))

-- ---- few free slots and none dead: many are live

pub many : (s : State) (n : ℕ) → free_of s < n → n ≤ s.plan.threshold → dead_of s ≡ 0 → quota s.plan s.pages ≤ live_of s
many s n h k z = omega (arith, all_slots s.table)

pub many_idle : (s : State) → free_of s ≤ s.plan.idle → dead_of s ≡ 0 → quota s.plan s.pages ≤ live_of s
many_idle s h z = omega (arith, all_slots s.table)

-- a move leaves the quota as it was
pub quota_same : {e : ℕ} (s t : State) → Moved e s t → quota t.plan t.pages ≡ quota s.plan s.pages
quota_same s t m = ap₂ quota m.plan_same m.pages_same

-- and the threshold
pub threshold_same : {e : ℕ} (s t : State) → Moved e s t → t.plan.threshold ≡ s.plan.threshold
threshold_same s t m = ap (λ (p : Plan). p.threshold) m.plan_same

pub worked_rounds :
    (n : ℕ) (s : State) → n ≤ s.plan.threshold → (k : ℕ) (w : Work) → Worked (quota s.plan s.pages) s w →
    Worked (quota s.plan s.pages) s (rounds_for k n w)
worked_rounds n s h =
    let q = quota s.plan s.pages in
    rounds_rule n (λ _ w. Worked q s w) (Worked q s)
    (λ k w o lack.
    worked_round q s w o (λ z. omega (arith, many w.state n lack (omega (arith, threshold_same s w.state o.leaves)) z, quota_same s w.state o.leaves)))
    (λ k w o room. o) (λ w o. o)
