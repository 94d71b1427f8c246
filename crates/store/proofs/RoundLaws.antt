-- Rounds of garbage collection, as the code makes and counts them.
use Rattle.std.proofs.Common.{◌≡◌, ℕ, zero, suc, ◌+◌, ◌*◌, ◌<◌, ◌≤◌, Bool, true, false, cond, ltb, [], ◌∷◌, ◌++◌, Some, sym, refl, ap, ◌∙◌, ap₂, mul-le-mul_right, zero-mul, arith, pow_pos}
use Rattle.rules.specs.Sets.{has, pages_in}
use Rattle.rules.proofs.SetLaws.{has_none}
use Rattle.std.specs.List.{range_with_len}
use Rattle.rules.specs.Choice.{greatest}
use Rattle.rules.specs.State.{State, deads, dead_of, free_of, share_of}
use Rattle.rules.specs.Moves.{Work, Round, round, rounds_for, at_rest, erases_in, compactions_in, merges_in, or_zero, victim, fullest, compacted_at, rewritten, clearing, no_row, round_as, compaction_of, merge_of}
use Rattle.rules.specs.Ready.{Ready}
use Rattle.rules.proofs.ReadyRounds.{Roundable}
use Rattle.rules.proofs.ReadyLoops.{Passable, passable, passes_after, after_rounds, round_compacts, round_merges, round_counted, few_rounds, rounds_none, rounds_more, rounds_end, added, made}
use Rattle.store.specs.declared.tally.Tally.{Tally}
use Rattle.store.specs.Moves.{CanRewrite}
use Rattle.store.specs.Rounds.{tally_of, tally_sum, Made, Roomy, CanMakeRoom}

-- ---- one round

-- a page fits into a work area
pub page_fits : (s : State) (n : ℕ) → Ready s → Roomy s n → s.card.shape.size ≤ n
page_fits s n r h =
    let wide : 1 * s.card.shape.size ≤ s.pages * s.card.shape.size = mul-le-mul_right s.card.shape.size (omega (arith, r.agrees.pages_are, r.sound.pages_low)) in
    omega arith

-- a compaction is a round where a slot is dead
pub compaction_round :
    (s t : State) (tally : Tally) (v : ℕ) → 0 < dead_of s → greatest deads s.table ≡ Some v →
    tally ≡ record { erases = 1; compactions = 1; merges = 0 } → t ≡ compacted_at s v → Made tally t (round (at_rest s))
compaction_round s t tally v h e c is =
    let w = round_compacts (at_rest s) h in
    record {
      counted = c ∙ sym (ap (λ (x : Work). tally_of x.rounds) w);
      state = is ∙ ap (compacted_at s) (sym (ap or_zero e)) ∙ sym (ap (λ (x : Work). x.state) w);
    }

-- and a merge where none is
pub merge_round :
    (s t : State) (tally : Tally) (d erases : ℕ) → dead_of s ≡ 0 → greatest (share_of s.table) (range_with_len 0 s.plan.data) ≡ Some d →
    tally ≡ record { erases = erases; compactions = 0; merges = 1 } → erases ≡ clearing s.card d → t ≡ rewritten s d no_row →
    Made tally t (round (at_rest s))
merge_round s t tally d erases h e l c is =
    let w = round_merges (at_rest s) h in
    let chosen : d ≡ fullest s = sym (ap or_zero e) in
    record {
      counted =
          l ∙ ap (λ (n : ℕ). record { erases = n; compactions = 0; merges = 1 }) (c ∙ ap (clearing s.card) chosen ∙ sum_one (clearing s.card (fullest s)))
          ∙ sym (ap (λ (x : Work). tally_of x.rounds) w);
      state = is ∙ ap (λ (b : ℕ). rewritten s b no_row) chosen ∙ sym (ap (λ (x : Work). x.state) w);
    }
  where
    sum_one : (n : ℕ) → n ≡ 0 + n
    sum_one n = omega arith

pages_of_none : (n : ℕ) → pages_in n 0 ≡ 0
unfolding pages_in
pages_of_none zero = refl
pages_of_none (suc n) =
    let none : ◌≡◌ {A = ℕ} (cond (has 0 n) 1 0) 0 = ap (λ (b : Bool). cond b 1 0) (has_none n) in
    omega (arith, pages_of_none n)

-- the fullest block can be merged
pub merge_starts :
    (s : State) (d n : ℕ) → Roundable s → dead_of s ≡ 0 → greatest (share_of s.table) (range_with_len 0 s.plan.data) ≡ Some d → Roomy s n →
    CanRewrite s d 0 0 n
merge_starts s d n r h e area =
    let can = r.merges h in
    let same : fullest s ≡ d = ap or_zero e in
    record {
      ready = r.ready;
      inside = rw (← same) can.inside;
      fits = pow_pos s.pages;
      group = sym (ap (λ (k : ℕ). k * s.card.shape.size) (pages_of_none s.pages) ∙ zero-mul s.card.shape.size);
      area_long = area;
      lasts = rw (← same) can.lasts;
    }

-- ---- rounds until there is room

-- a round after others is the same round, and counts for itself
record Apart (w : Work) (x y : Work) : Type 0 where
  state : x.state ≡ y.state
  erases : erases_in x.rounds ≡ erases_in w.rounds + erases_in y.rounds
  compactions : compactions_in x.rounds ≡ compactions_in w.rounds + compactions_in y.rounds
  merges : merges_in x.rounds ≡ merges_in w.rounds + merges_in y.rounds

apart : (w : Work) → Apart w (round w) (round (at_rest w.state))
unfolding round
apart w = go (ltb 0 (dead_of w.state))
  where
    one : (r : Round) (t : State) → Apart w (record { state = t; rounds = w.rounds ++ (r ∷ []) }) (record { state = t; rounds = [] ++ (r ∷ []) })
    one r t =
        let a = added w.rounds r in
        let b = added [] r in
        record {
          state = refl;
          erases = omega (arith, a.erases, b.erases);
          compactions = omega (arith, a.compactions, b.compactions);
          merges = omega (arith, a.merges, b.merges);
        }

    go : (b : Bool) → Apart w (round_as b w) (round_as b (at_rest w.state))
    go true = one (compaction_of w.state) (compacted_at w.state (victim w.state))
    go false = one (merge_of w.state) (rewritten w.state (fullest w.state) no_row)

-- the rounds that a tally counts
abbrev pub count_of : Tally → ℕ
count_of t = t.compactions + t.merges

-- as many rounds were made as the tally counts, and they led from one state to another
pub record MakingRoom (n : ℕ) (start is : State) (t : Tally) : Type 0 where
  pub state : is ≡ (rounds_for (count_of t) n (at_rest start)).state
  pub tally : t ≡ tally_of (rounds_for (count_of t) n (at_rest start)).rounds
  pub few : count_of t ≤ 2 * n

same_tally :
    (a b c d e f : ℕ) → a ≡ b → c ≡ d → e ≡ f →
    ◌≡◌ {A = Tally} (record { erases = a; compactions = c; merges = e }) (record { erases = b; compactions = d; merges = f })
same_tally a b c d e f p q r = cc

module _ (n : ℕ) (s : State) where
  pub making_none : (t : Tally) → t.erases ≡ 0 → t.compactions ≡ 0 → t.merges ≡ 0 → MakingRoom n s s t
  making_none t p q r =
      let w = rounds_none n (at_rest s) in
      let none : t ≡ record { erases = 0; compactions = 0; merges = 0 } = same_tally _ _ _ _ _ _ p q r in
      rw none (record { state = sym (ap (λ (x : Work). x.state) w); tally = sym (ap (λ (x : Work). tally_of x.rounds) w); few = omega arith })

  -- no count is above the rounds
  pub making_few : (is : State) (t : Tally) → MakingRoom n s is t → n ≤ 64 → (t.erases ≤ 128) × (t.compactions ≤ 128) × (t.merges ≤ 128)
  making_few is t h l =
      let f = few_rounds n (count_of t) s in
      let e : t.erases ≡ erases_in (rounds_for (count_of t) n (at_rest s)).rounds = ap (λ (x : Tally). x.erases) h.tally in
      (omega (arith, f.erases, h.few), omega (arith, h.few), omega (arith, h.few))

  module _ (area : ℕ) (can : CanMakeRoom s n area) where
    all : Passable n s
    all = passable n s can.ready can.lasts can.few

    -- while there is no room, one round more can be made
    pub making_next : (is : State) (t : Tally) → MakingRoom n s is t → free_of is < n → Roundable is × (count_of t < 2 * n)
    making_next is t h short =
        let low : free_of (after_rounds (count_of t) n s) < n = rw (← h.state) short in
        (rw h.state (all.next (count_of t) h.few low), all.left (count_of t) h.few low)

    -- its measures are those of the start
    pub making_same : (is : State) (t : Tally) → MakingRoom n s is t → (is.pages ≡ s.pages) × (is.card.shape ≡ s.card.shape)
    making_same is t h =
        let p = passes_after n s can.ready can.lasts can.few (count_of t) h.few in
        rw h.state (p.pages_same, p.shape_same)

    -- and a round is one more
    module _ (is now : State) (t one : Tally) (h : MakingRoom n s is t) (short : free_of is < n) (made_one : Made one now (round (at_rest is))) where
      w : Work
      w = rounds_for (count_of t) n (at_rest s)

      same : round (at_rest w.state) ≡ round (at_rest is)
      unfolding w
      same = ap (λ (x : State). round (at_rest x)) (sym h.state)

      tally_is : tally_sum t one ≡ tally_of (round w).rounds
      unfolding w
      tally_is =
          let a = apart w in
          let o : one ≡ tally_of (round (at_rest w.state)).rounds = made_one.counted ∙ sym (ap (λ (x : Work). tally_of x.rounds) same) in
          same_tally _ _ _ _ _ _
          (ap₂ ◌+◌ (ap (λ (x : Tally). x.erases) h.tally) (ap (λ (x : Tally). x.erases) o) ∙ sym a.erases)
          (ap₂ ◌+◌ (ap (λ (x : Tally). x.compactions) h.tally) (ap (λ (x : Tally). x.compactions) o) ∙ sym a.compactions)
          (ap₂ ◌+◌ (ap (λ (x : Tally). x.merges) h.tally) (ap (λ (x : Tally). x.merges) o) ∙ sym a.merges)

      pub making_count : count_of (tally_sum t one) ≡ count_of t + 1
      unfolding w
      making_count =
          let was : count_of t ≡ made w.rounds = ap count_of h.tally in
          ap count_of tally_is ∙ (round_counted w).one ∙ ap (λ (j : ℕ). j + 1) (sym was)

      pub making_more : MakingRoom n s now (tally_sum t one)
      unfolding w
      making_more =
          let low : free_of w.state < n = rw (← h.state) short in
          let there : rounds_for (count_of (tally_sum t one)) n (at_rest s) ≡ round w =
          ap (λ (j : ℕ). rounds_for j n (at_rest s)) making_count ∙ rounds_more n (count_of t) (at_rest s) low in
          record {
            state = made_one.state ∙ sym (ap (λ (x : Work). x.state) same) ∙ sym (apart w).state ∙ sym (ap (λ (x : Work). x.state) there);
            tally = tally_is ∙ sym (ap (λ (x : Work). tally_of x.rounds) there);
            few = omega (arith, making_count, (making_next is t h short).1);
          }

  pub making_end :
      (is : State) (t : Tally) → MakingRoom n s is t → n ≤ free_of is → Made t is (rounds_for (2 * n) n (at_rest s))
  making_end is t h enough =
      let w : rounds_for (2 * n) n (at_rest s) ≡ rounds_for (count_of t) n (at_rest s) = rounds_end n (count_of t) (2 * n) (at_rest s) (rw (← h.state) enough) h.few in
      record { counted = h.tally ∙ sym (ap (λ (x : Work). tally_of x.rounds) w); state = h.state ∙ sym (ap (λ (x : Work). x.state) w) }

-- at most 64 slots are asked for
pub room_few : (s : State) (n area : ℕ) → CanMakeRoom s n area → n ≤ 64
room_few s n area can = omega (arith, can.few, can.ready.agrees.pages_are, can.ready.sound.pages_high)

-- states of the same measures ask the same of a work area
pub roomy_as : (s is : State) (n m : ℕ) → (is.pages ≡ s.pages) × (is.card.shape ≡ s.card.shape) → m ≡ n → Roomy s n → Roomy is m
roomy_as s is n m same e h = rw (same.0, ap (λ x. x.size) same.1, e) h
