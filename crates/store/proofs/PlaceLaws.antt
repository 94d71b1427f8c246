-- A group is placed, and an idle round made, as the rules have it.
use Rattle.std.proofs.Common.{◌≡◌, ℕ, ◌*◌, ◌^◌, ◌<◌, ◌≤◌, Bool, true, false, ltb, leb, List, [], length, Some, None, Option, sym, ap, ◌∙◌, ap₂, arith}
use Rattle.std.proofs.lemmas.Bool.{lt-ltb, le-ltb, le-leb, lt-leb}
use Rattle.flash.specs.Meaning.{erase_count_at}
use Rattle.rules.specs.declared.plan.Plan.{Plan}
use Rattle.rules.specs.Sets.{has, pages_in}
use Rattle.rules.specs.State.{State, free_of}
use Rattle.rules.specs.Moves.{Round, round, rounds_for, at_rest, rewritten, dropped, appended, clearing}
use Rattle.rules.specs.Calls.{Answer, done, told, to_data, to_region, flushed_as, flushed, rested_as, rested, row_of, watched}
use Rattle.rules.specs.Ready.{Ready}
use Rattle.rules.proofs.Accepted.{CanFlush}
use Rattle.rules.proofs.ReadyAppends.{free_dropped}
use Rattle.rules.proofs.ReadyErases.{far_from_worn}
use Rattle.rules.proofs.ReadyLoops.{passable, passes_after, idle_round}
use Rattle.rules.proofs.ReadyMoves.{ready_good, ready_dropped}
use Rattle.rules.proofs.ReadyOnce.{places_dropped}
use Rattle.rules.proofs.ReadyRounds.{Roundable}
use Rattle.rules.proofs.SetLaws.{pages_le}
use Rattle.store.specs.declared.region.Region.{Region}
use Rattle.store.specs.declared.region.Region.TheVariants.{PageMapped, BlockMapped}
use Rattle.store.specs.declared.report.Report.{Report as Told}
use Rattle.store.specs.declared.tally.Tally.{Tally}
use Rattle.store.specs.Appends.{CanAppend}
use Rattle.store.specs.Calls.{way_in, report_of, CarriedOut}
use Rattle.store.specs.Moves.{CanRewrite}
use Rattle.store.specs.Rounds.{tally_of, CanMakeRoom, CanPlace, CanRest, Made}

-- ---- what is told

-- a report by its parts
told_as :
    (r : Told) (way erases compactions merges : ℕ) → way_in r.way ≡ way → r.erases ≡ erases → r.compactions ≡ compactions → r.merges ≡ merges →
    done (report_of r) ≡ done (record { way = way; erases = erases; compactions = compactions; merges = merges; bytes = [] })
told_as r way erases compactions merges a b c d = cc

-- a report of the rounds that a tally counts
abbrev pub report_by : Option Region → Tally → Told
report_by way tally = record { way = way; erases = tally.erases; compactions = tally.compactions; merges = tally.merges }

told_rounds :
    (r : Told) (way : Option Region) (tally : Tally) (rs : List Round) → r ≡ report_by way tally → tally ≡ tally_of rs →
    done (report_of r) ≡ told (way_in way) rs
told_rounds r way tally rs e f = ap (λ (x : Told). done (report_of x)) e ∙ ap (λ (x : Tally). done (report_of (report_by way x))) f

-- ---- a group

-- a group can be placed by way of the part of the area that is lent
pub place_by :
    (s : State) (d g bytes area part : ℕ) → Ready s → CanFlush s d g bytes area → s.pages * s.card.shape.size ≤ part → CanPlace s d g bytes part
place_by s d g bytes area part ready f h =
    record {
      ready = ready;
      flushable = record { inside = f.inside; fits = f.fits; some = f.some; bytes = f.bytes; area_long = h; lasts = f.lasts };
    }

module _ (s : State) (d g : ℕ) (bytes : List ℕ) (area : ℕ) (can : CanPlace s d g (length bytes) area) where
  -- every block can be erased
  lasts : (b : ℕ) → b < watched s → erase_count_at s.card b < s.card.shape.endurance
  lasts b h = omega (arith, far_from_worn (watched s) s.card can.flushable.lasts b h)

  pub place_rewrites : CanRewrite s d g (length bytes) area
  place_rewrites =
      let f = can.flushable in
      record {
        ready = can.ready;
        inside = f.inside;
        fits = f.fits;
        group = f.bytes;
        area_long = f.area_long;
        lasts = lasts d (omega (arith, f.inside, can.ready.agrees.inside));
      }

  pub place_room : (n : ℕ) → n ≡ pages_in s.pages g → CanMakeRoom s n area
  place_room n e =
      record {
        ready = can.ready;
        lasts = can.flushable.lasts;
        few = omega (arith, pages_le s.pages g);
        area_long = can.flushable.area_long;
      }

  -- more pages than the threshold
  pub placed_large :
      (n : ℕ) (r : Told) (t : State) → n ≡ pages_in s.pages g → s.plan.threshold < n → r.way ≡ Some BlockMapped → r.erases ≡ clearing s.card d →
      r.compactions ≡ 0 → r.merges ≡ 0 → t ≡ rewritten s d (row_of s.card.shape.size g bytes) →
      CarriedOut r t (flushed s d g (row_of s.card.shape.size g bytes))
  unfolding flushed
  placed_large n r t e h way erases compactions merges is =
      let row = row_of s.card.shape.size g bytes in
      let big : ltb s.plan.threshold (pages_in s.pages g) ≡ true = lt-ltb s.plan.threshold (pages_in s.pages g) (omega arith) in
      let all : to_data s d row ≡ flushed_as (ltb s.plan.threshold (pages_in s.pages g)) s d g row (pages_in s.pages g) =
      sym (ap (λ (b : Bool). flushed_as b s d g row (pages_in s.pages g)) big) in
      record {
        tells = told_as r 2 _ 0 0 (ap way_in way) erases compactions merges ∙ ap (λ (x : Answer × State). x.0) all;
        leaves = is ∙ ap (λ (x : Answer × State). x.1) all;
      }

  -- what the rounds have made
  module _ (n : ℕ) (e : n ≡ pages_in s.pages g) (t : State) (is : t ≡ (rounds_for (2 * n) n (at_rest s)).state) where
    pass : (t.plan ≡ s.plan) × (t.pages ≡ s.pages) × (t.card.shape ≡ s.card.shape)
    pass =
        let c = place_room n e in
        let p = passes_after n s can.ready c.lasts c.few (2 * n) (omega arith) in
        rw is (p.plan_same, p.pages_same, p.shape_same)

    made_ready : Ready t
    made_ready =
        let c = place_room n e in
        rw is ((passable n s can.ready c.lasts c.few).ready (2 * n) (omega arith))

    made_room : n ≤ free_of t
    made_room =
        let c = place_room n e in
        rw is (passable n s can.ready c.lasts c.few).room

    pub made_drops : (d < t.plan.data) × (g < 2 ^ t.pages)
    made_drops = (rw (ap (λ (x : Plan). x.data) pass.0) can.flushable.inside, rw pass.1 can.flushable.fits)

    -- the group's older copies are dead, and its pages can be appended
    module _ (u : State) (dropped_is : u ≡ dropped t d (has g)) where
      pub made_appends : CanAppend u d g (length bytes)
      unfolding dropped
      made_appends =
          rw dropped_is
          (record {
            ready = ready_dropped t d (has g) made_ready;
            inside = made_drops.0;
            bytes = can.flushable.bytes ∙ sym (ap₂ (λ a b. pages_in a g * b) pass.1 (ap (λ x. x.size) pass.2));
            room = omega (arith, made_room, free_dropped t d (has g) made_ready, ap (λ (k : ℕ). pages_in k g) pass.1);
            absent = λ i q. places_dropped t d (has g) i (ready_good t made_ready) made_drops.0 q;
          })

      pub placed_small :
          (tally : Tally) (r : Told) (v : State) → n ≤ s.plan.threshold → tally ≡ tally_of (rounds_for (2 * n) n (at_rest s)).rounds →
          r ≡ report_by (Some PageMapped) tally → v ≡ appended u d (row_of u.card.shape.size g bytes) u.pages →
          CarriedOut r v (flushed s d g (row_of s.card.shape.size g bytes))
      unfolding flushed dropped
      placed_small tally r v h q report f =
          let row = row_of s.card.shape.size g bytes in
          let small : ltb s.plan.threshold (pages_in s.pages g) ≡ false = le-ltb s.plan.threshold (pages_in s.pages g) (omega arith) in
          let all : to_region s d g row (pages_in s.pages g) ≡ flushed_as (ltb s.plan.threshold (pages_in s.pages g)) s d g row (pages_in s.pages g) =
          sym (ap (λ (b : Bool). flushed_as b s d g row (pages_in s.pages g)) small) in
          let same : to_region s d g row n ≡ to_region s d g row (pages_in s.pages g) = ap (to_region s d g row) e in
          let pages : u.pages ≡ s.pages = ap (λ (x : State). x.pages) dropped_is ∙ pass.1 in
          let size : u.card.shape.size ≡ s.card.shape.size = ap (λ (x : State). x.card.shape.size) dropped_is ∙ ap (λ x. x.size) pass.2 in
          let state : v ≡ appended (dropped (rounds_for (2 * n) n (at_rest s)).state d (has g)) d row s.pages =
          f ∙ ap₂ (λ a b. appended u d (row_of a g bytes) b) size pages
          ∙ ap (λ (x : State). appended x d row s.pages) (dropped_is ∙ ap (λ (x : State). dropped x d (has g)) is) in
          record {
            tells = told_rounds r (Some PageMapped) tally (rounds_for (2 * n) n (at_rest s)).rounds report q ∙ ap (λ (x : Answer × State). x.0) (same ∙ all);
            leaves = state ∙ ap (λ (x : Answer × State). x.1) (same ∙ all);
          }

-- ---- an idle round

module _ (s : State) (area : ℕ) (can : CanRest s area) where
  pub rest_collects : free_of s ≤ s.plan.idle → Roundable s
  rest_collects h = idle_round s can.ready can.lasts h can.low

  pub rests :
      (r : Told) (t : State) → s.plan.idle < free_of s → r.way ≡ None → r.erases ≡ 0 → r.compactions ≡ 0 → r.merges ≡ 0 → t ≡ s →
      CarriedOut r t (rested s)
  unfolding rested
  rests r t h way erases compactions merges is =
      let none : rested s ≡ (told 0 [], s) = ap (λ (b : Bool). rested_as b s) (lt-leb (free_of s) s.plan.idle h) in
      record {
        tells = told_as r 0 0 0 0 (ap way_in way) erases compactions merges ∙ sym (ap (λ (x : Answer × State). x.0) none);
        leaves = is ∙ sym (ap (λ (x : Answer × State). x.1) none);
      }

  pub works :
      (tally : Tally) (r : Told) (t : State) → free_of s ≤ s.plan.idle → Made tally t (round (at_rest s)) → r ≡ report_by None tally →
      CarriedOut r t (rested s)
  unfolding rested
  works tally r t h round_made report =
      let all : rested_as true s ≡ rested_as (leb (free_of s) s.plan.idle) s = sym (ap (λ (b : Bool). rested_as b s) (le-leb (free_of s) s.plan.idle h)) in
      record {
        tells = told_rounds r None tally (round (at_rest s)).rounds report round_made.counted ∙ ap (λ (x : Answer × State). x.0) all;
        leaves = round_made.state ∙ ap (λ (x : Answer × State). x.1) all;
      }
