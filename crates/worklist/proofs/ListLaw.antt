-- A work list is a run of calls: what it tells is what the law of runs counts.
use Rattle.std.proofs.Common.{◌≡◌, ℕ, zero, suc, ◌+◌, ◌≤◌, Bool, true, false, cond, leb, List, [], ◌∷◌, ◌++◌, length, Some, None, Option, sym, refl, ap, subst, arith}
use Rattle.rules.specs.Calls.{Call, Answer, formatted, step}
use Rattle.rules.specs.Runs.{Log, Ran, still, after, erases_of, ceiling}
use Rattle.rules.specs.State.{State}
use Rattle.rules.proofs.Laws.{law}
use Rattle.store.specs.Calls.{answer_in, state_after}
use Rattle.worklist.specs.declared.fault.ListFault.TheVariants.{NoRoom, TooLong}
use Rattle.worklist.specs.Law.{RanFrom, Followed, Bounded}
use Rattle.worklist.specs.Records.{Item, Next, taken, stopped, next_at}
use Rattle.worklist.specs.Runs.{Progress, begun, call_for, carried, Outcome, onward, ran, room_for, run_of, large_of, small_of, ended_as, ends}

-- one call more after a run
ran_more : {s t : State} {log : Log} (c : Call) (a : Answer) (u : State) → Ran s log t → step t c ≡ (a, u) → Ran s (log ++ ((c, a) ∷ [])) u
ran_more c a u still e = after e still
ran_more c a u (after f r) e = after f (ran_more c a u r e)

followed_carried : (s : Option State) (size : ℕ) (i : Item) (w : Progress) → Followed s w → Followed s (carried size i w)
followed_carried None size i w f = ap (λ (x : Option State). state_after x (call_for size (length w.area) i)) f
followed_carried (Some s) size i w f =
    let c : Call = call_for size (length w.area) i in
    let t : State = f.end in
    let answer : answer_in w.state c ≡ (step t c).0 = ap (λ (x : Option State). answer_in x c) f.state in
    record {
      end = (step t c).1;
      state = ap (λ (x : Option State). state_after x c) f.state;
      run = subst (λ (a : Answer). Ran s (w.log ++ ((c, a) ∷ [])) (step t c).1) (sym answer) (ran_more c (step t c).0 (step t c).1 f.run refl);
    }

followed_ran :
    (s : Option State) (n : ℕ) (xs : List ℕ) (size room at : ℕ) (w : Progress) → Followed s w → Followed s (ran n xs size room at w).done
unfolding ran
followed_ran s zero xs size room at w f = f
followed_ran s (suc n) xs size room at w f = go (λ next v g. followed_ran s n xs size room next v g) (next_at xs at size)
  where
    Later : Type 0
    Later = (next : ℕ) (v : Progress) → Followed s v → Followed s (ran n xs size room next v).done

    fits :
        Later → (next : ℕ) (item : Item) (b : Bool) →
        Followed s (cond b (ran n xs size room next (carried size item w)) (ends (Some NoRoom) at w)).done
    fits later next item true = later next (carried size item w) (followed_carried s size item w f)
    fits later next item false = f

    go : Later → (x : Next) → Followed s (onward (ran n xs size room) size room x at w).done
    go later (stopped e) = f
    go later (taken x) = fits later x.next x.item (leb (length w.answers + room_for size x.item) room)

followed_begun : (s : Option State) (area : List ℕ) → Followed s (begun s area)
followed_begun None area = refl
followed_begun (Some s) area = record { end = s; state = refl; run = still }

pub follows : (xs : List ℕ) (size room : ℕ) (s : Option State) (area : List ℕ) → Followed s (run_of xs size room s area).done
follows xs size room s area = go (leb (length xs) 16777216)
  where
    go : (b : Bool) → Followed s (cond b (ran (length xs + 1) xs size room 0 (begun s area)) (ends (Some TooLong) 0 (begun s area))).done
    go true = followed_ran s (length xs + 1) xs size room 0 (begun s area) (followed_begun s area)
    go false = followed_begun s area

-- so its erases are below the ceiling
pub bounded : (s : Option State) (o : Outcome) → Followed s o.done → Bounded s (ended_as s o)
unfolding formatted
bounded s o f p c so e q =
    let start : State = formatted p c in
    let g : RanFrom start o.done = subst (λ (x : Option State). Followed x o.done) q f in
    let k = law p c so e o.done.log g.end g.run in
    let figure : ℕ → ℕ → ℕ = ceiling p c.shape.pages in
    let groups : large_of s o.done.log ≡ large_of (Some start) o.done.log = ap (λ (x : Option State). large_of x o.done.log) q in
    let pages : small_of s o.done.log ≡ small_of (Some start) o.done.log = ap (λ (x : Option State). small_of x o.done.log) q in
    let least : erases_of o.done.log ≤ figure (large_of (Some start) o.done.log) (small_of (Some start) o.done.log) = omega (arith, k.bounded, k.told) in
    rw (groups, pages) least
