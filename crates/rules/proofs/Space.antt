-- There is always space: no more slots are used than there are, and the rounds of a flush free as many as it needs, with few erases.
use Rattle.std.proofs.Common.{◌≡◌, ℕ, suc, ◌+◌, ◌-◌, ◌*◌, ◌<◌, ◌≤◌, max, [], length, get_or, set, replicate, sum_by, ap, ◌∙◌, ap₂, inl, inr, mul-le-mul_right, add-mul, arith}
use Rattle.std.proofs.lemmas.List.Sums.{sum_by-set, sum_by_push}
use Rattle.std.proofs.lemmas.List.Elements.{All-set, All-weaker}
use Rattle.std.proofs.lemmas.List.Sums.{sum_by-le}
use Rattle.std.proofs.lemmas.List.{length-set, length-replicate}
use Rattle.std.proofs.lemmas.Bool.{cases_lt}
use Rattle.rules.specs.State.{dead, State, capacity, quota, live_of, dead_of, free_of}
use Rattle.rules.specs.Moves.{Work, compacted_at, rewritten, victim, fullest, no_row, compaction_of, merge_of, round, rounds_for, at_rest, one_compaction, one_merge, compactions_in, merges_in, erases_in}
use Rattle.rules.specs.Ready.{Filed}
use Rattle.rules.proofs.Counts.{all_slots}
use Rattle.rules.proofs.Rounds.{Good, Moved, merging, compacting}
use Rattle.rules.proofs.Works.{round_either, rounds_rule, proper_sums, worked_none, worked_rounds, quota_same}

-- ---- the slots in use

-- no more than all slots but the reserve's: with the reserve filled up, each block of the region has at most its pages
pub used_le : (s : State) → Good s → sum_by length s.table ≤ capacity s.plan s.pages
used_le s g =
    let n = s.pages in
    let full = replicate n dead in
    let t = set s.table s.reserve full in
    let lf : length full ≡ n = length-replicate n dead in
    let a = sum_by-set length s.table s.reserve full [] (omega (arith, g.rows, g.reserve_in)) in
    let z : length (get_or s.table s.reserve []) ≡ 0 = ap length g.reserve_empty in
    let short = All-weaker (Filed s.plan.data n) (λ xs. length xs ≤ n) (λ xs f. f.short) s.table g.filed in
    let b = sum_by-le length n t (All-set (λ xs. length xs ≤ n) s.table s.reserve full (omega arith) short) in
    let rows : length t * n ≡ (s.plan.region - 1 + 1) * n =
    ap (λ (m : ℕ). m * n) (length-set s.table s.reserve full ∙ omega (arith, g.rows, g.reserve_in)) in
    let split : (s.plan.region - 1 + 1) * n ≡ (s.plan.region - 1) * n + 1 * n = add-mul (s.plan.region - 1) 1 n in
    omega arith

-- a move leaves the capacity as it was
pub capacity_same : {e : ℕ} (s t : State) → Moved e s t → capacity t.plan t.pages ≡ capacity s.plan s.pages
capacity_same s t m = ap₂ capacity m.plan_same m.pages_same

-- a good state of a plan that leaves some live slots before a merge
pub record Ready (s : State) : Type 0 where
  pub good : Good s
  pub quota_some : 0 < quota s.plan s.pages

pub ready_moved : {e : ℕ} (s t : State) → Ready s → Moved e s t → Ready t
ready_moved s t r m = record { good = m.good; quota_some = omega (arith, r.quota_some, quota_same s t m) }

-- ---- rounds until n slots are free

-- n slots are free, after at most n compactions and at most as many merges
pub record Enough (n : ℕ) (w : Work) : Type 0 where
  pub room : n ≤ free_of w.state
  pub few_compactions : compactions_in w.rounds ≤ n
  pub few_merges : merges_in w.rounds ≤ compactions_in w.rounds

-- what holds with k rounds left. Of n slots `lacking` at most are not free.
-- `owed` is 1 after a merge: the next round is then a compaction, which recovers what the merge left dead
record Pending (n k : ℕ) (w : Work) : Type 0 where
  good : Good w.state
  within : n ≤ capacity w.state.plan w.state.pages
  lacking : ℕ
  owed : ℕ
  owed_le : owed ≤ 1
  owed_dead : owed ≤ dead_of w.state
  -- only while fewer than n slots are free
  owed_short : free_of w.state + owed ≤ max n (free_of w.state)
  lack : n ≤ free_of w.state + lacking
  fuel : 2 * lacking ≤ k + owed
  compactions_free : compactions_in w.rounds ≤ free_of w.state
  few_compactions : compactions_in w.rounds ≤ n
  few_merges : merges_in w.rounds ≤ compactions_in w.rounds + owed

-- a share that is taken is not nothing
fewer : (k n l : ℕ) → k * l + n ≤ n * l → 0 < n → k < n
fewer k n l h z =
    elim (cases_lt k n) [ inl a ↦ a | inr a ↦ absurd (let m : n * l ≤ k * l = mul-le-mul_right l a in omega arith) ]

pending_round : (n k : ℕ) (w : Work) → Pending n (suc k) w → free_of w.state < n → Pending n k (round w)
pending_round n k w p short =
    let s = w.state in
    let rs = w.rounds in
    round_either (Pending n k) w
    (λ some.
    let c = compacting s p.good some in
    let r = compaction_of s in
    let t = compacted_at s (victim s) in
    let comps = sum_by_push one_compaction rs r in
    let merges = sum_by_push one_merge rs r in
    let same = capacity_same s t c.leaves in
    let used : free_of s + 1 ≤ free_of t =
    omega (arith, used_le s p.good, c.live_same, c.recovered, c.freed.some, all_slots s.table, all_slots t.table) in
    record {
      good = c.leaves.good;
      within = omega (arith, p.within);
      lacking = p.lacking - 1;
      owed = 0;
      owed_le = omega arith;
      owed_dead = omega arith;
      owed_short = omega arith;
      lack = omega (arith, p.lack);
      fuel = omega (arith, p.fuel, p.owed_le);
      compactions_free = omega (arith, p.compactions_free);
      few_compactions = omega (arith, p.compactions_free);
      few_merges = omega (arith, p.few_merges, p.owed_le);
    })
    (λ none.
    let m = merging s p.good in
    let r = merge_of s in
    let t = rewritten s (fullest s) no_row in
    let comps = sum_by_push one_compaction rs r in
    let merges = sum_by_push one_merge rs r in
    let same = capacity_same s t m.leaves in
    let some_live : 0 < live_of s = omega (arith, all_slots s.table, p.within) in
    let fewer_live = fewer (live_of t) (live_of s) s.plan.data m.share some_live in
    let free : free_of t ≡ free_of s = omega (arith, m.slots, all_slots s.table, all_slots t.table) in
    record {
      good = m.leaves.good;
      within = omega (arith, p.within);
      lacking = p.lacking;
      owed = 1;
      owed_le = omega arith;
      owed_dead = omega (arith, m.slots);
      owed_short = omega arith;
      lack = omega (arith, p.lack);
      fuel = omega (arith, p.fuel, p.owed_dead);
      compactions_free = omega (arith, p.compactions_free);
      few_compactions = omega (arith, p.few_compactions);
      few_merges = omega (arith, p.few_merges, p.owed_dead);
    })

-- 2 × n rounds free n slots, of those that there are
pub room_for :
    (n : ℕ) (s : State) → Good s → n ≤ capacity s.plan s.pages → Enough n (rounds_for (2 * n) n (at_rest s))
room_for n s g h =
    rounds_rule n (Pending n) (Enough n) (pending_round n)
    (λ k w p room.
    record {
      room = room;
      few_compactions = p.few_compactions;
      few_merges = omega (arith, p.few_merges, p.owed_short);
    })
    (λ w p.
    record {
      room = omega (arith, p.lack, p.fuel, p.owed_le);
      few_compactions = p.few_compactions;
      few_merges = omega (arith, p.few_merges, p.owed_short, p.lack, p.fuel, p.owed_le);
    })
    (2 * n) (at_rest s)
    (record {
      good = g;
      within = h;
      lacking = n;
      owed = 0;
      owed_le = omega arith;
      owed_dead = omega arith;
      owed_short = omega arith;
      lack = omega arith;
      fuel = omega arith;
      compactions_free = omega arith;
      few_compactions = omega arith;
      few_merges = omega arith;
    })

-- and so as many as the threshold allows
pub enough : (n : ℕ) (s : State) → Ready s → n ≤ s.plan.threshold → Enough n (rounds_for (2 * n) n (at_rest s))
enough n s r h = room_for n s r.good (omega (arith, r.quota_some))

-- so a flush of n pages takes at most 2 × n erases
pub few_erases :
    (n : ℕ) (s : State) → Ready s → n ≤ s.plan.threshold → erases_in (rounds_for (2 * n) n (at_rest s)).rounds ≤ 2 * n
few_erases n s r h =
    let w = rounds_for (2 * n) n (at_rest s) in
    let e = enough n s r h in
    let p = proper_sums w.rounds (worked_rounds n s h (2 * n) (at_rest s) (worked_none _ s r.good)).proper in
    omega (arith, e.few_compactions, e.few_merges, p.erases_are, p.data_le)
