-- Every call, and so every run of calls, keeps faith with the ledger.
use Rattle.std.proofs.Common.{◌≡◌, ℕ, zero, suc, ◌*◌, ◌^◌, ◌<◌, Bool, true, false, cond, ◌&&◌, eqb, ltb, leb, List, length, Some, None, Option, sym, refl, ap, ◌∙◌, subst, inl, inr, arith}
use Rattle.std.proofs.lemmas.Bool.{cases_lt, eq-eqb, ltb-false, lt-ltb, both_ways, and_from}
use Rattle.flash.specs.Meaning.{Shape}
use Rattle.rules.specs.declared.plan.Plan.{Plan}
use Rattle.rules.specs.Sets.{has, pages_in}
use Rattle.rules.specs.State.{State, free_of, held}
use Rattle.rules.specs.Moves.{at_rest, dropped, appended, rewritten}
use Rattle.rules.specs.Calls.{Call, flush, read, discard, idle, Answer, row_at, row_of, flushed_as, flushed, rested_as, rested, gives, unless, step}
use Rattle.rules.specs.Runs.{Log, Ran, still, after, accepted, Ledger, entered, ledger_of}
use Rattle.rules.proofs.SetLaws.{has_high}
use Rattle.rules.proofs.Space.{Ready, ready_moved}
use Rattle.rules.proofs.Appending.{page_of}
use Rattle.rules.proofs.Accepted.{can_flush, can_discard}
use Rattle.rules.proofs.Steps.{number_for, meant_by, step_is}
use Rattle.rules.proofs.CallAccounts.{room_for, room_made, booked}
use Rattle.rules.proofs.Faith.{Faith, faith_as}
use Rattle.rules.proofs.FaithMoves.{over, or_else, without, faith_rewritten, faith_dropped}
use Rattle.rules.proofs.FaithRounds.{faith_round, faith_rounds}
use Rattle.rules.proofs.FaithAppends.{with_below, faith_appended}

-- ---- one entry of the ledger after a flush

-- a large group's row laid over the ledger is what the flush enters
large_entry :
    (a h : Bool) (size g : ℕ) (bytes : List ℕ) (j : ℕ) (y : Option (List ℕ)) →
    cond a (or_else (row_at size g bytes j h) y) y ≡ cond (a && h) (row_at size g bytes j h) y
large_entry true true size g bytes j y = refl
large_entry true false size g bytes j y = refl
large_entry false h size g bytes j y = refl

-- a small group's pages, after older copies were dropped, are what the flush enters
small_entry :
    (a h l : Bool) (size g : ℕ) (bytes : List ℕ) (j : ℕ) (y : Option (List ℕ)) → (h ≡ true → l ≡ true) →
    cond (a && (h && l)) (Some (page_of size g bytes j)) (cond (a && h) None y) ≡ cond (a && h) (row_at size g bytes j h) y
small_entry false h l size g bytes j y e = refl
small_entry true false l size g bytes j y e = refl
small_entry true true l size g bytes j y e = ap (λ (b : Bool). cond b (Some (page_of size g bytes j)) None) (e refl)

-- ---- the calls

module _ (led : Ledger) (s : State) (f : Faith led s) (r : Ready s) where
  faith_flush :
      (d g : ℕ) (bytes : List ℕ) (area : ℕ) → d < s.plan.data → g < 2 ^ s.pages → (b : Bool) → ltb s.plan.threshold (pages_in s.pages g) ≡ b →
      let size = s.card.shape.size in
      let x = flushed_as b s d g (row_of size g bytes) (pages_in s.pages g) in
      Faith (cond (accepted x.0) (entered size (flush d g bytes area) led) led) x.1
  unfolding entered row_of
  faith_flush d g bytes area hd hg true e =
      let size = s.card.shape.size in
      let row = row_of size g bytes in
      faith_as (over d row led) (entered size (flush d g bytes area) led) (rewritten s d row)
      (λ e j. large_entry (eqb e d) (has g j) size g bytes j (led e j))
      (faith_rewritten led s f d row hd (λ j h. ap (row_at size g bytes j) (has_high s.pages g j hg h)))
  faith_flush d g bytes area hd hg false e =
      let size = s.card.shape.size in
      let n = pages_in s.pages g in
      let w = room_for s g in
      let k = dropped w.state d (has g) in
      let m = room_made s d g r (ltb-false s.plan.threshold n e) in
      let inside : d < w.state.plan.data = omega (arith, ap (λ (p : Plan). p.data) m.worked.leaves.plan_same) in
      let inside' : d < k.plan.data = omega (arith, ap (λ (p : Plan). p.data) m.moves.plan_same) in
      let cleared = faith_dropped led w.state (faith_rounds led (2 * n) n (at_rest s) f) d (has g) inside in
      faith_as (with_below s.pages d size g bytes (without d (has g) led)) (entered size (flush d g bytes area) led) (appended k d (row_of size g bytes) s.pages)
      (λ e j.
      small_entry (eqb e d) (has g j) (ltb j s.pages) size g bytes j (led e j)
      (λ h. elim (cases_lt j s.pages) [
        | inl l ↦ lt-ltb j s.pages l
        | inr l ↦ absurd (both_ways (has g j) (has_high s.pages g j hg l) h)
      ]))
      (faith_appended (without d (has g) led) k cleared d size g bytes inside'
      (λ j h. ap (λ (b : Bool). cond b None (led d j)) (and_from (eqb d d) (has g j) (eq-eqb d d refl) h))
      s.pages (omega (arith, m.moves.pages_same)) m.room)

  faith_rest : (b : Bool) → Faith led (rested_as b s).1
  faith_rest true = faith_round led (at_rest s) f
  faith_rest false = f

  -- a call that enters nothing
  faith_kept : (b : Bool) (new : Ledger) (t : State) → ((e j : ℕ) → led e j ≡ new e j) → Faith led t → Faith (cond b new led) t
  faith_kept true new t h k = faith_as led new t h k
  faith_kept false new t h k = k

  -- a call that is not refused
  faith_meant :
      (c : Call) → number_for s c ≡ 0 →
      Faith (cond (accepted (meant_by s c).0) (entered s.card.shape.size c led) led) (meant_by s c).1
  unfolding flushed rested entered
  faith_meant (flush d g bytes area) e =
      let can = can_flush s d g (length bytes) area e in
      faith_flush d g bytes area can.inside can.fits (ltb s.plan.threshold (pages_in s.pages g)) refl
  faith_meant (read d i len) e =
      faith_kept (accepted (gives s.card (held s d i))) (entered s.card.shape.size (read d i len) led) s (λ _ _. refl) f
  faith_meant (discard d g) e =
      faith_as (without d (has g) led) (entered s.card.shape.size (discard d g) led) (dropped s d (has g)) (λ _ _. refl)
      (faith_dropped led s f d (has g) (can_discard s d g e).inside)
  faith_meant (idle area) e =
      faith_kept (accepted (rested s).0) (entered s.card.shape.size (idle area) led) (rested s).1 (λ _ _. refl)
      (faith_rest (leb (free_of s) s.plan.idle))

  -- every call
  pub faith_step : (c : Call) → Faith (cond (accepted (step s c).0) (entered s.card.shape.size c led) led) (step s c).1
  faith_step c =
      subst (λ (x : Answer × State). Faith (cond (accepted x.0) (entered s.card.shape.size c led) led) x.1) (sym (step_is s c))
      (go (number_for s c) refl)
    where
      go :
          (n : ℕ) → number_for s c ≡ n →
          Faith (cond (accepted (unless n s (meant_by s c)).0) (entered s.card.shape.size c led) led) (unless n s (meant_by s c)).1
      go zero e = faith_meant c e
      go (suc n) e = f

-- every run, with the ledger that its log makes
pub faith_run :
    {s t : State} {log : Log} → Ran s log t → (led : Ledger) → Faith led s → Ready s → (size : ℕ) → s.card.shape.size ≡ size →
    Faith (ledger_of size log led) t
faith_run still led f r size e = f
faith_run (after {s = s} {t = t} {c = c} {a = a} is rest) led f r size e =
    let m = (booked s c r).account.leaves in
    let at : (step s c).1 ≡ t = ap (λ (x : Answer × State). x.1) is in
    let same : t.card.shape.size ≡ size = ap (λ (x : State). x.card.shape.size) (sym at) ∙ ap (λ (x : Shape). x.size) m.card_alike.shape_same ∙ e in
    let one : Faith (cond (accepted a) (entered size c led) led) t =
    subst (λ (n : ℕ). Faith (cond (accepted a) (entered n c led) led) t) e
    (subst (λ (x : Answer × State). Faith (cond (accepted x.0) (entered s.card.shape.size c led) led) x.1) is (faith_step led s f r c)) in
    faith_run rest (cond (accepted a) (entered size c led) led) one (subst Ready at (ready_moved s (step s c).1 r m)) size same
