-- Every move of a ready state leaves a ready state.
use Rattle.std.proofs.Common.{◌≡◌, ℕ, ◌+◌, ◌<◌, Bool, ◌≢◌, List, length, Some, arith}
use Rattle.flash.specs.Meaning.{erase_count_at}
use Rattle.rules.specs.State.{State, places}
use Rattle.rules.specs.Moves.{Row, dropped, compacted_at, rewritten, stored_at}
use Rattle.rules.specs.Ready.{Ready}
use Rattle.rules.proofs.Rounds.{Good}
use Rattle.rules.proofs.OpenBlock.{OpenIn}
use Rattle.rules.proofs.ReadyCards.{Sized}
use Rattle.rules.proofs.ReadyFirm.{Firm, firm_compacted, firm_dropped, firm_rewritten, firm_stored}
use Rattle.rules.proofs.ReadyOnce.{Once, once_compacted, once_rewritten, once_dropped, once_stored}

-- ---- what a ready state has

pub ready_good : (s : State) → Ready s → Good s
ready_good s r =
    let o = r.orderly in
    record {
      some_data = omega (arith, r.some_data);
      inside = r.agrees.inside;
      pages_are = r.agrees.pages_are;
      sets_are = o.sets_are;
      sets_fit = o.sets_fit;
      rows = o.rows;
      reserve_in = o.reserve_in;
      reserve_empty = o.reserve_empty;
      filed = o.filed;
    }

pub ready_firm : (s : State) → Ready s → Firm s
ready_firm s r =
    record { two_blocks = r.two_blocks; good = ready_good s r; floors = r.agrees.floors; sound = r.sound }

pub ready_once : (s : State) → Ready s → Once s
unfolding places
ready_once s r = r.orderly.once

pub firm_ready : (s : State) → Firm s → Once s → Ready s
unfolding places
firm_ready s f o =
    let g = f.good in
    record {
      some_data = omega (arith, g.some_data);
      two_blocks = f.two_blocks;
      orderly =
          record {
            sets_are = g.sets_are;
            sets_fit = g.sets_fit;
            rows = g.rows;
            filed = g.filed;
            reserve_in = g.reserve_in;
            reserve_empty = g.reserve_empty;
            once = o;
          };
      agrees = record { pages_are = g.pages_are; inside = g.inside; floors = f.floors };
      sound = f.sound;
    }

-- ---- the moves

pub ready_compacted :
    (s : State) (v : ℕ) → Ready s → v < s.plan.region → v ≢ s.reserve →
    erase_count_at s.card (s.plan.data + v) < s.card.shape.endurance → Ready (compacted_at s v)
ready_compacted s v r h ne low =
    firm_ready (compacted_at s v) (firm_compacted s v (ready_firm s r) h ne low) (once_compacted s v (ready_good s r) h ne (ready_once s r))

pub ready_rewritten :
    (s : State) (d : ℕ) (row : Row) → Ready s → d < s.plan.data → erase_count_at s.card d < s.card.shape.endurance →
    Sized s.card.shape.size row → Ready (rewritten s d row)
ready_rewritten s d row r hd low sized =
    firm_ready (rewritten s d row) (firm_rewritten s d row (ready_firm s r) hd low sized) (once_rewritten s d row (ready_once s r))

pub ready_dropped : (s : State) (d : ℕ) (picks : ℕ → Bool) → Ready s → Ready (dropped s d picks)
ready_dropped s d picks r =
    firm_ready (dropped s d picks) (firm_dropped s d picks (ready_firm s r)) (once_dropped s d picks (ready_once s r))

pub ready_stored :
    (s : State) (d i : ℕ) (x : List ℕ) (r : ℕ) → Ready s → OpenIn s r → d < s.plan.data → i < s.pages →
    length x ≡ s.card.shape.size → places s d i ≡ 0 → Ready (stored_at s d i x (Some r))
ready_stored s d i x r h o hd hi e none =
    firm_ready (stored_at s d i x (Some r)) (firm_stored s d i x r (ready_firm s h) o hd hi e)
    (once_stored s d i x r (ready_good s h) o none (ready_once s h))
