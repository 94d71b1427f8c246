-- An accepted format leaves a ready state, and every call leaves one of a ready state: so does every run.
use Rattle.std.proofs.Common.{◌≡◌, ℕ, zero, suc, ◌+◌, ◌*◌, ◌<◌, ◌≤◌, Bool, true, false, cond, ltb, leb, List, [], length, get_or, replicate, None, count_by, sym, refl, ap, ◌∙◌, subst, arith}
use Rattle.std.proofs.lemmas.List.{get_or-replicate}
use Rattle.flash.specs.Meaning.{Card, Shape, block_count, floor_at, erase_count_at, Sound}
use Rattle.flash.specs.Refusals.{erase_refusal}
use Rattle.rules.specs.declared.plan.Plan.{Plan}
use Rattle.rules.specs.Sets.{has, pages_in}
use Rattle.rules.specs.State.{Slot, State, is_at, free_of, places}
use Rattle.rules.specs.Moves.{dropped, appended, rewritten, at_rest}
use Rattle.rules.specs.Calls.{Call, flush, read, discard, idle, Answer, row_of, near_worn, watched, format_number, to_region, flushed_as, flushed, Few, rested_as, rested, unless, step, cleared_below, formatted}
use Rattle.rules.specs.Runs.{Log, Ran, still, after}
use Rattle.rules.specs.Ready.{Ready}
use Rattle.rules.proofs.SetLaws.{pages_le}
use Rattle.rules.proofs.Sums.{sum_replicate_zero}
use Rattle.rules.proofs.Accepted.{CanFlush, can_flush, can_idle, CanFormat, can_format}
use Rattle.rules.proofs.Formatted.{good_formatted}
use Rattle.rules.proofs.Steps.{number_for, meant_by, step_is}
use Rattle.rules.proofs.ReadyErases.{far_from_worn, clear_lasts, sound_below, blank_below}
use Rattle.rules.proofs.ReadyFirm.{Firm}
use Rattle.rules.proofs.ReadyOnce.{Once, one_in_le}
use Rattle.rules.proofs.ReadyMoves.{ready_good, ready_rewritten, ready_dropped, firm_ready}
use Rattle.rules.proofs.ReadyAppends.{row_sized, ready_appended}
use Rattle.rules.proofs.ReadyRounds.{passes_none, passes_round}
use Rattle.rules.proofs.ReadyLoops.{after_rounds, passes_after, passable}

-- ---- format

module _ (p : Plan) (c : Card) (can : CanFormat p c) where
  -- every block may be erased
  format_lasts : (b : ℕ) → b < p.data + p.region → erase_count_at c b < c.shape.endurance
  format_lasts b h = omega (arith, far_from_worn (block_count c) c can.lasts b (omega (arith, can.inside)))

  firm_formatted : Sound c → Firm (formatted p c)
  unfolding formatted
  firm_formatted sound =
      let n = p.data + p.region in
      record {
        two_blocks = can.two;
        good = good_formatted p c can;
        floors = λ r h.
            let rows : List (List Slot) = replicate p.region [] in
            let none : length (get_or rows r []) ≡ 0 = ap length (get_or-replicate p.region r [] [] h) in
            omega (arith, blank_below n c can.inside (p.data + r) (omega arith));
        sound = sound_below n c sound can.inside format_lasts;
      }

  once_formatted : Once (formatted p c)
  unfolding formatted places
  once_formatted d i =
      omega (arith, one_in_le (replicate p.data 0) d i, sum_replicate_zero (count_by (is_at d i)) [] refl p.region)

-- each block of the plan is cleared in turn, and its erase is accepted
pub format_erases :
    (p : Plan) (c : Card) → format_number p c ≡ 0 → (n : ℕ) → n < p.data + p.region → erase_refusal (cleared_below n c) n ≡ None
format_erases p c e n h =
    let can = can_format p c e in
    clear_lasts n c (omega (arith, can.inside)) (format_lasts p c can n h)

pub ready_formatted : (p : Plan) (c : Card) → Sound c → format_number p c ≡ 0 → Ready (formatted p c)
ready_formatted p c s e =
    let can = can_format p c e in
    firm_ready (formatted p c) (firm_formatted p c can s) (once_formatted p c can)

-- ---- calls

-- a group that goes to its data block
ready_large :
    (s : State) (d g : ℕ) (bytes : List ℕ) (area : ℕ) → Ready s → CanFlush s d g (length bytes) area →
    Ready (rewritten s d (row_of s.card.shape.size g bytes))
ready_large s d g bytes area r can =
    let o = ready_good s r in
    ready_rewritten s d (row_of s.card.shape.size g bytes) r can.inside
    (omega (arith, far_from_worn (watched s) s.card can.lasts d (omega (arith, can.inside, o.inside))))
    (row_sized s.card.shape.size g s.pages bytes can.fits can.bytes)

-- a group that goes to the region, where room is made first
ready_small :
    (s : State) (d g : ℕ) (bytes : List ℕ) (area : ℕ) → Ready s → CanFlush s d g (length bytes) area →
    Ready (to_region s d g (row_of s.card.shape.size g bytes) (pages_in s.pages g)).1
ready_small s d g bytes area r can =
    let n = pages_in s.pages g in
    let few = pages_le s.pages g in
    let u = after_rounds (2 * n) n s in
    let p = passes_after n s r can.lasts few (2 * n) (omega arith) in
    let size : s.card.shape.size ≡ u.card.shape.size = ap (λ (x : Shape). x.size) (sym p.shape_same) in
    let data_same : u.plan.data ≡ s.plan.data = ap (λ (x : Plan). x.data) p.plan_same in
    let len : length bytes ≡ pages_in u.pages g * u.card.shape.size =
    can.bytes ∙ ap (λ (m : ℕ). pages_in s.pages g * m) size ∙ ap (λ (m : ℕ). pages_in m g * u.card.shape.size) (sym p.pages_same) in
    let room : pages_in u.pages g ≤ free_of u =
    subst (λ (m : ℕ). pages_in m g ≤ free_of u) (sym p.pages_same) (passable n s r can.lasts few).room in
    subst (λ (m : ℕ). Ready (appended (dropped u d (has g)) d (row_of m g bytes) s.pages)) (sym size)
    (ready_appended u d g bytes p.ready (omega (arith, can.inside)) len room s.pages (omega (arith, p.pages_same)))

ready_flushed :
    (s : State) (d g : ℕ) (bytes : List ℕ) (area : ℕ) → Ready s → CanFlush s d g (length bytes) area →
    Ready (flushed s d g (row_of s.card.shape.size g bytes)).1
unfolding flushed
ready_flushed s d g bytes area r can = go (ltb s.plan.threshold (pages_in s.pages g))
  where
    go : (b : Bool) → Ready (flushed_as b s d g (row_of s.card.shape.size g bytes) (pages_in s.pages g)).1
    go true = ready_large s d g bytes area r can
    go false = ready_small s d g bytes area r can

-- it takes few rounds
pub few_flushed :
    (s : State) (d g : ℕ) (bytes : List ℕ) (area : ℕ) → Ready s → CanFlush s d g (length bytes) area →
    Few (pages_in s.pages g) (flushed s d g (row_of s.card.shape.size g bytes)).0
unfolding flushed
few_flushed s d g bytes area r can = go (ltb s.plan.threshold (pages_in s.pages g))
  where
    one : (b : Bool) → cond b 1 0 ≤ 128
    one true = omega arith
    one false = omega arith

    go : (b : Bool) → Few (pages_in s.pages g) (flushed_as b s d g (row_of s.card.shape.size g bytes) (pages_in s.pages g)).0
    go true = (omega arith, omega arith, one (ltb 0 (floor_at s.card d)))
    go false =
        let few = pages_le s.pages g in
        let p = passable (pages_in s.pages g) s r can.lasts few in
        (p.few_compactions, p.few_merges, omega (arith, p.few_erases, few, r.agrees.pages_are, r.sound.pages_high))

ready_rested : (s : State) → Ready s → near_worn (watched s) s.card ≡ false → Ready (rested s).1
unfolding rested
ready_rested s r lasts = go (leb (free_of s) s.plan.idle)
  where
    go : (b : Bool) → Ready (rested_as b s).1
    go true = (passes_round s 127 (at_rest s) (passes_none s r lasts)).ready
    go false = r

-- a call that is not refused
pub ready_meant : (s : State) (c : Call) → Ready s → number_for s c ≡ 0 → Ready (meant_by s c).1
ready_meant s (flush d g bytes area) r e = ready_flushed s d g bytes area r (can_flush s d g (length bytes) area e)
ready_meant s (read d i len) r e = r
ready_meant s (discard d g) r e = ready_dropped s d (has g) r
ready_meant s (idle area) r e = ready_rested s r (can_idle s area e).lasts

-- every call
pub ready_step : (s : State) (c : Call) → Ready s → Ready (step s c).1
ready_step s c r =
    subst (λ (x : Answer × State). Ready x.1) (sym (step_is s c)) (go (number_for s c) (ready_meant s c r))
  where
    go : (n : ℕ) → (n ≡ 0 → Ready (meant_by s c).1) → Ready (unless n s (meant_by s c)).1
    go zero meant = meant refl
    go (suc n) meant = r

-- every run
pub ready_run : {s t : State} {log : Log} → Ran s log t → Ready s → Ready t
ready_run still r = r
ready_run (after {s} {t} {u} {c} e ran) r =
    ready_run ran (subst (λ (x : Answer × State). Ready x.1) e (ready_step s c r))
