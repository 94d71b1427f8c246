-- Rounds of garbage collection: each leaves a ready state, and while too few slots are free the next one can be made.
use Rattle.std.proofs.Common.{◌≡◌, ℕ, suc, ◌+◌, ◌<◌, ◌≤◌, false, ◌≢◌, [], get_or, Some, sym, refl, ap, ◌∙◌, subst, arith}
use Rattle.std.specs.List.{range_with_len}
use Rattle.flash.specs.Meaning.{Card, Shape, block_count, erase_count_at}
use Rattle.rules.specs.Choice.{greatest}
use Rattle.rules.specs.State.{State, capacity, deads, live_of, dead_of, free_of, share_of}
use Rattle.rules.specs.Moves.{Work, clearing, compacted_at, rewritten, or_zero, victim, fullest, no_row, round, rounds_for}
use Rattle.rules.specs.Calls.{near_worn, watched}
use Rattle.rules.specs.Ready.{Ready}
use Rattle.rules.proofs.Counts.{all_slots, share, best_positive, freed}
use Rattle.rules.proofs.CardCounts.{Alike, clearing_le}
use Rattle.rules.proofs.Rounds.{Good, Moved, merging, compacted_moved}
use Rattle.rules.proofs.Works.{round_either, rounds_rule}
use Rattle.rules.proofs.ReadyCards.{Sized}
use Rattle.rules.proofs.ReadyErases.{far_from_worn}
use Rattle.rules.proofs.ReadyMoves.{ready_good, ready_compacted, ready_rewritten}

-- ---- erases that are left

-- every block may be erased m times more
abbrev pub Spare : ℕ → Card → Type 0
Spare m c = (b : ℕ) → b < block_count c → erase_count_at c b + m ≤ c.shape.endurance

-- after e erases there are e fewer
pub counts_rise : (e m : ℕ) (c k : Card) → Alike e c k → Spare (e + m) c → Spare m k
counts_rise e m c k a h b l =
    let top : k.shape.endurance ≡ c.shape.endurance = ap (λ (x : Shape). x.endurance) a.shape_same in
    omega (arith, a.each b, h b (omega (arith, a.blocks_same)))

spare_as : (m n : ℕ) (c : Card) → n ≤ m → Spare m c → Spare n c
spare_as m n c h s b l = omega (arith, s b l)

-- ---- what the next round needs

-- the block with the most dead slots has one, is not the reserve, and may be erased
pub record CanCompact (s : State) (v : ℕ) : Type 0 where
  pub chosen : greatest deads s.table ≡ Some v
  pub inside : v < s.plan.region
  pub apart : v ≢ s.reserve
  pub some : 0 < deads (get_or s.table v [])
  pub lasts : erase_count_at s.card (s.plan.data + v) < s.card.shape.endurance

-- the data block with the most live slots has one, and may be erased
pub record CanMerge (s : State) (d : ℕ) : Type 0 where
  pub chosen : greatest (share_of s.table) (range_with_len 0 s.plan.data) ≡ Some d
  pub inside : d < s.plan.data
  pub some : 0 < share_of s.table d
  pub lasts : erase_count_at s.card d < s.card.shape.endurance

-- a compaction if any slot is dead, and otherwise a merge
pub record Roundable (s : State) : Type 0 where
  pub ready : Ready s
  pub compacts : 0 < dead_of s → CanCompact s (victim s)
  pub merges : dead_of s ≡ 0 → CanMerge s (fullest s)

can_compact : (s : State) → Good s → Spare 1 s.card → 0 < dead_of s → CanCompact s (victim s)
can_compact s g spare h =
    let r = freed s.table s.reserve (omega (arith, g.rows, g.reserve_in)) g.reserve_empty h in
    let v = r.0 in
    let f = r.1 in
    subst (CanCompact s) (sym (ap or_zero f.chosen))
    (record {
      chosen = f.chosen;
      inside = omega (arith, g.rows, f.inside);
      apart = f.apart;
      some = f.some;
      lasts = omega (arith, spare (s.plan.data + v) (omega (arith, g.rows, g.inside, f.inside)));
    })

can_merge : (s : State) → Good s → Spare 1 s.card → 0 < live_of s → CanMerge s (fullest s)
can_merge s g spare h =
    let r = share s.plan.data s.pages s.table g.some_data g.filed in
    let d = r.0 in
    let f = r.1 in
    subst (CanMerge s) (sym (ap or_zero f.chosen))
    (record {
      chosen = f.chosen;
      inside = f.inside;
      some = best_positive s.plan.data (share_of s.table d) (live_of s) f.share h;
      lasts = omega (arith, spare d (omega (arith, g.inside, f.inside)));
    })

-- while a slot is in use a round can be made
pub roundable : (s : State) → Ready s → Spare 1 s.card → free_of s < capacity s.plan s.pages → Roundable s
roundable s r spare h =
    record {
      ready = r;
      compacts = can_compact s (ready_good s r) spare;
      merges = λ none. can_merge s (ready_good s r) spare (omega (arith, all_slots s.table));
    }

-- ---- one round

-- what rounds from the state s leave, with m erases of each block to spare
pub record Passes (s : State) (m : ℕ) (t : State) : Type 0 where
  pub ready : Ready t
  pub spare : Spare m t.card
  pub plan_same : t.plan ≡ s.plan
  pub pages_same : t.pages ≡ s.pages
  pub shape_same : t.card.shape ≡ s.card.shape

passes_on : (s : State) (m : ℕ) (t u : State) (e : ℕ) → Passes s (e + m) t → Moved e t u → Ready u → Passes s m u
passes_on s m t u e p v r =
    record {
      ready = r;
      spare = counts_rise e m t.card u.card v.card_alike p.spare;
      plan_same = v.plan_same ∙ p.plan_same;
      pages_same = v.pages_same ∙ p.pages_same;
      shape_same = v.card_alike.shape_same ∙ p.shape_same;
    }

pub passes_as : (s : State) (m n : ℕ) (t : State) → n ≤ m → Passes s m t → Passes s n t
passes_as s m n t h p =
    record {
      ready = p.ready;
      spare = spare_as m n t.card h p.spare;
      plan_same = p.plan_same;
      pages_same = p.pages_same;
      shape_same = p.shape_same;
    }

none_sized : (size : ℕ) → Sized size no_row
none_sized size i x e = absurd (let z : ◌≡◌ {A = ℕ} 0 1 = cc in omega arith)

pub passes_round : (s : State) (m : ℕ) (w : Work) → Passes s (1 + m) w.state → Passes s m (round w).state
passes_round s m w p =
    let u = w.state in
    let g = ready_good u p.ready in
    let one : Spare 1 u.card = spare_as (1 + m) 1 u.card (omega arith) p.spare in
    round_either (λ (x : Work). Passes s m x.state) w
    (λ some.
    let c = can_compact u g one some in
    let v = victim u in
    passes_on s m u (compacted_at u v) 1 p (compacted_moved u v g c.inside) (ready_compacted u v p.ready c.inside c.apart c.lasts))
    (λ none.
    let d = fullest u in
    let h = (merging u g).inside in
    let e = clearing u.card d in
    passes_on s m u (rewritten u d no_row) e (passes_as s (1 + m) (e + m) u (omega (arith, clearing_le u.card d)) p)
    (merging u g).leaves
    (ready_rewritten u d no_row p.ready h (omega (arith, one d (omega (arith, g.inside)))) (none_sized u.card.shape.size)))

-- ---- rounds until n slots are free

pub passes_rounds :
    (n : ℕ) (s : State) (m k : ℕ) (w : Work) → Passes s (k + m) w.state → Passes s m (rounds_for k n w).state
passes_rounds n s m k w p =
    rounds_rule n (λ j x. Passes s (j + m) x.state) (λ x. Passes s m x.state)
    (λ j x q _. passes_round s (j + m) x (passes_as s (suc j + m) (1 + (j + m)) x.state (omega arith) q))
    (λ j x q _. passes_as s (suc j + m) m x.state (omega arith) q)
    (λ x q. passes_as s (0 + m) m x.state (omega arith) q)
    k w p

pub passes_none : (s : State) → Ready s → near_worn (watched s) s.card ≡ false → Passes s 128 s
passes_none s r e =
    record {
      ready = r;
      spare = far_from_worn (watched s) s.card e;
      plan_same = refl;
      pages_same = refl;
      shape_same = refl;
    }
