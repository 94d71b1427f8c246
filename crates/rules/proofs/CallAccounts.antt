-- The account of each call, and of every run of calls.
use Rattle.std.proofs.Common.{◌≡◌, ℕ, zero, suc, ◌+◌, ◌*◌, ◌<◌, ◌≤◌, Bool, true, false, cond, ltb, leb, List, [], ◌∷◌, length, Some, None, Option, sym, refl, ap, subst, ap₂, mul-le-mul_right, add-mul, arith}
use Rattle.std.proofs.lemmas.List.Sums.{sum_by-append}
use Rattle.std.proofs.lemmas.Bool.{ltb-false, leb-true}
use Rattle.flash.specs.Meaning.{Card}
use Rattle.rules.specs.declared.plan.Plan.{Plan}
use Rattle.rules.specs.Sets.{has, pages_in}
use Rattle.rules.specs.State.{State, quota, live_of, free_of, held}
use Rattle.rules.specs.Moves.{Row, Round, Work, clearing, rewritten, round, rounds_for, at_rest, dropped, appended, compactions_in, erases_in, one_compaction}
use Rattle.rules.specs.Calls.{Call, flush, read, discard, idle, Answer, refused, row_of, told, to_data, to_region, flushed_as, flushed, rested_as, rested, gives, unless, step}
use Rattle.rules.specs.Runs.{Log, Ran, still, after, accepted, erases_told, erases_of, large_in, small_in, large_groups_in, small_pages_in}
use Rattle.rules.proofs.Counts.{all_slots}
use Rattle.rules.proofs.CardCounts.{clearing_le}
use Rattle.rules.proofs.Rounds.{Good, Moved, moved_then, Taken, taken_none, taken_then, dropping, rewriting}
use Rattle.rules.proofs.Works.{data_erases_in, proper_sums, Worked, worked_none, worked_round, worked_rounds, many_idle, threshold_same}
use Rattle.rules.proofs.Space.{Ready, ready_moved, enough, capacity_same}
use Rattle.rules.proofs.Appending.{appending}
use Rattle.rules.proofs.Steps.{number_for, meant_by, step_is}
use Rattle.rules.proofs.Accepted.{can_flush}
use Rattle.rules.proofs.Accounts.{rounds_unless, erases_unless, rounds_flushed, rounds_rested, rounds_meant, erases_meant, rounds_by, data_erases_by, rounds_of, data_erases_of, Account, account_none, account_then}

-- an answer with the account of what was done for it, which it tells
pub record Booked (s : State) (large small : ℕ) (rs : List Round) (n : ℕ) (r : Answer × State) : Type 0 where
  pub account : Account s large small rs n r.1
  pub tells : erases_told r.0 ≡ compactions_in rs + n

-- a move that takes no slot
booked_still : (s t : State) (a : Answer) → erases_told a ≡ 0 → Taken 0 s t → Booked s 0 0 [] 0 (a, t)
booked_still s t a e m =
    record {
      account =
          record {
            leaves = m.leaves;
            slots = omega (arith, m.slots);
            recovers = omega arith;
            data_le = omega arith;
            shares = let x : live_of t * s.plan.data ≤ (live_of s + 0) * s.plan.data = mul-le-mul_right s.plan.data m.live_le in omega arith;
          };
      tells = e;
    }

-- rounds that began at rest, and then n slots taken
booked_worked :
    (s : State) (w : Work) (t : State) (way n : ℕ) → Worked (quota s.plan s.pages) s w → Taken n w.state t →
    Booked s 0 n w.rounds (data_erases_in w.rounds) (told way w.rounds, t)
booked_worked s w t way n o m =
    let u = w.state in
    let rs = w.rounds in
    let p = proper_sums rs o.proper in
    let l = s.plan.data in
    let total : erases_in rs + 0 ≡ compactions_in rs + data_erases_in rs = omega (arith, p.erases_are) in
    let more : live_of t * l ≤ (live_of u + n) * l = mul-le-mul_right l m.live_le in
    record {
      account =
          record {
            leaves = subst (λ (e : ℕ). Moved e s t) total (moved_then (erases_in rs) 0 s u t o.leaves m.leaves);
            slots = omega (arith, o.slots, m.slots);
            recovers = p.recovers;
            data_le = omega (arith, p.data_le);
            shares = omega (arith, o.shares, add-mul (live_of u) n l, add-mul (live_of s) n l);
          };
      tells = p.erases_are;
    }

-- ---- the calls

booked_large : (s : State) (d : ℕ) (row : Row) → Good s → d < s.plan.data → Booked s 1 0 [] (clearing s.card d) (to_data s d row)
booked_large s d row g h =
    let r = rewriting s d row g h in
    let l = s.plan.data in
    let less : live_of (rewritten s d row) * l ≤ (live_of s + 0) * l = mul-le-mul_right l (omega (arith, r.live_less)) in
    record {
      account =
          record {
            leaves = subst (λ (e : ℕ). Moved e s (rewritten s d row)) (omega arith) r.leaves;
            slots = omega (arith, r.slots);
            recovers = omega arith;
            data_le = omega (arith, clearing_le s.card d);
            shares = omega arith;
          };
      tells = omega arith;
    }

-- the rounds before a small group is appended
abbrev pub room_for : State → ℕ → Work
room_for s g = rounds_for (2 * pages_in s.pages g) (pages_in s.pages g) (at_rest s)

-- the state in which it is appended: its older copies are dead, and there is room
pub record RoomMade (s : State) (g : ℕ) (k : State) : Type 0 where
  pub worked : Worked (quota s.plan s.pages) s (room_for s g)
  pub drops : Taken 0 (room_for s g).state k
  pub moves : Moved (erases_in (room_for s g).rounds + 0) s k
  pub room : pages_in s.pages g ≤ free_of k

pub room_made :
    (s : State) (d g : ℕ) → Ready s → pages_in s.pages g ≤ s.plan.threshold → RoomMade s g (dropped (room_for s g).state d (has g))
room_made s d g r h =
    let n = pages_in s.pages g in
    let w = room_for s g in
    let u = w.state in
    let k = dropped u d (has g) in
    let o = worked_rounds n s h (2 * n) (at_rest s) (worked_none (quota s.plan s.pages) s r.good) in
    let t = dropping u d (has g) o.leaves.good in
    record {
      worked = o;
      drops = t;
      moves = moved_then (erases_in w.rounds) 0 s u k o.leaves t.leaves;
      room =
          omega (arith, (enough n s r h).room, capacity_same u k t.leaves, t.slots, all_slots u.table, all_slots k.table);
    }

booked_small :
    (s : State) (d g size : ℕ) (bytes : List ℕ) → Ready s → d < s.plan.data → pages_in s.pages g ≤ s.plan.threshold →
    Booked s 0 (pages_in s.pages g) (room_for s g).rounds (data_erases_in (room_for s g).rounds) (to_region s d g (row_of size g bytes) (pages_in s.pages g))
booked_small s d g size bytes r hd h =
    let n = pages_in s.pages g in
    let u = (room_for s g).state in
    let k = dropped u d (has g) in
    let t = appended k d (row_of size g bytes) s.pages in
    let m = room_made s d g r h in
    let plan : k.plan.data ≡ s.plan.data = ap (λ (p : Plan). p.data) m.moves.plan_same in
    let pages : k.pages ≡ s.pages = m.moves.pages_same in
    let a = appending k d size g bytes s.pages m.moves.good (omega arith) (omega arith) m.room in
    booked_worked s (room_for s g) t 1 n m.worked (subst (λ (x : ℕ). Taken x u t) (omega arith) (taken_then 0 n u k t m.drops a))

booked_flush :
    (s : State) (d g size : ℕ) (bytes : List ℕ) → Ready s → d < s.plan.data → (b : Bool) → ltb s.plan.threshold (pages_in s.pages g) ≡ b →
    let n = pages_in s.pages g in
    let x = flushed_as b s d g (row_of size g bytes) n in
    let rs = rounds_flushed b s n in
    Booked s (cond (accepted x.0) (cond b 1 0) 0) (cond (accepted x.0) (cond b 0 n) 0) rs (cond b (clearing s.card d) 0 + data_erases_in rs) x
booked_flush s d g size bytes r hd true e =
    let row = row_of size g bytes in
    subst (λ (n : ℕ). Booked s 1 0 [] n (to_data s d row)) (omega arith) (booked_large s d row r.good hd)
booked_flush s d g size bytes r hd false e =
    let n = pages_in s.pages g in
    let rs = (room_for s g).rounds in
    subst (λ (m : ℕ). Booked s 0 n rs m (to_region s d g (row_of size g bytes) n)) (omega arith)
    (booked_small s d g size bytes r hd (ltb-false s.plan.threshold n e))

booked_rest :
    (s : State) → Ready s → (b : Bool) → leb (free_of s) s.plan.idle ≡ b →
    let x = rested_as b s in
    let rs = rounds_rested b s in
    Booked s (cond (accepted x.0) 0 0) (cond (accepted x.0) 0 0) rs (0 + data_erases_in rs) x
booked_rest s r true e =
    let q = quota s.plan s.pages in
    let w = round (at_rest s) in
    let o = worked_round q s (at_rest s) (worked_none q s r.good) (many_idle s (leb-true (free_of s) s.plan.idle e)) in
    subst (λ (m : ℕ). Booked s 0 0 w.rounds m (told 0 w.rounds, w.state)) (omega arith)
    (booked_worked s w w.state 0 0 o (taken_none w.state o.leaves.good))
booked_rest s r false e = booked_still s s (told 0 []) refl (taken_none s r.good)

gives_still : (c : Card) (o : Option (ℕ × ℕ × ℕ)) → erases_told (gives c o) ≡ 0
gives_still c None = refl
gives_still c (Some p) = refl

-- what an answer to a call counts for: nothing if it is a refusal
abbrev pub large : State → Call → Answer → ℕ
large s c a = cond (accepted a) (large_in s.plan.threshold s.pages c) 0

abbrev pub small : State → Call → Answer → ℕ
small s c a = cond (accepted a) (small_in s.plan.threshold s.pages c) 0

nothing : (b : Bool) → ◌≡◌ {A = ℕ} (cond b 0 0) 0
nothing true = refl
nothing false = refl

-- a call that is not refused
booked_meant :
    (s : State) (c : Call) → Ready s → number_for s c ≡ 0 →
    Booked s (large s c (meant_by s c).0) (small s c (meant_by s c).0) (rounds_meant s c) (erases_meant s c + data_erases_in (rounds_meant s c)) (meant_by s c)
unfolding flushed rested
booked_meant s (flush d g bytes area) r e =
    booked_flush s d g s.card.shape.size bytes r (can_flush s d g (length bytes) area e).inside (ltb s.plan.threshold (pages_in s.pages g)) refl
booked_meant s (read d i len) r e =
    rw (nothing (accepted (gives s.card (held s d i))))
    (booked_still s s (gives s.card (held s d i)) (gives_still s.card (held s d i)) (taken_none s r.good))
booked_meant s (discard d g) r e = booked_still s (dropped s d (has g)) (told 0 []) refl (dropping s d (has g) r.good)
booked_meant s (idle area) r e = booked_rest s r (leb (free_of s) s.plan.idle) refl

-- every call
pub booked :
    (s : State) (c : Call) → Ready s →
    Booked s (large s c (step s c).0) (small s c (step s c).0) (rounds_by s c) (data_erases_by s c) (step s c)
booked s c r = subst (λ (x : Answer × State). Booked s (large s c x.0) (small s c x.0) (rounds_by s c) (data_erases_by s c) x) (sym (step_is s c)) (go (number_for s c) refl)
  where
    go :
        (n : ℕ) → number_for s c ≡ n →
        Booked s (large s c (unless n s (meant_by s c)).0) (small s c (unless n s (meant_by s c)).0) (rounds_unless n (rounds_meant s c))
        (erases_unless n (erases_meant s c + data_erases_in (rounds_meant s c))) (unless n s (meant_by s c))
    go zero e = booked_meant s c r e
    go (suc n) e = booked_still s s (refused (suc n)) refl (taken_none s r.good)

-- ---- every run of calls

-- the account of a log, whose large groups and small pages are counted by the plan of the state that it starts from
pub record BookedRun (s : State) (log : Log) (t : State) : Type 0 where
  pub account :
      Account s (large_groups_in s.plan.threshold s.pages log) (small_pages_in s.plan.threshold s.pages log) (rounds_of s log) (data_erases_of s log) t
  pub tells : erases_of log ≡ compactions_in (rounds_of s log) + data_erases_of s log

-- one call more, before the others
booked_more : (s : State) (c : Call) (log : Log) (u : State) → Ready s → BookedRun (step s c).1 log u → BookedRun s ((c, (step s c).0) ∷ log) u
booked_more s c log u r i =
    let t = (step s c).1 in
    let b = booked s c r in
    let m = b.account.leaves in
    let rs = rounds_of t log in
    let n = data_erases_of t log in
    let large_same : large_groups_in t.plan.threshold t.pages log ≡ large_groups_in s.plan.threshold s.pages log =
    ap₂ (λ (x y : ℕ). large_groups_in x y log) (threshold_same s t m) m.pages_same in
    let small_same : small_pages_in t.plan.threshold t.pages log ≡ small_pages_in s.plan.threshold s.pages log =
    ap₂ (λ (x y : ℕ). small_pages_in x y log) (threshold_same s t m) m.pages_same in
    record {
      account =
          account_then s t u _ _ _ _ (rounds_by s c) rs (data_erases_by s c) n b.account
          (subst (λ (x : ℕ). Account t x (small_pages_in s.plan.threshold s.pages log) rs n u) large_same
          (subst (λ (x : ℕ). Account t (large_groups_in t.plan.threshold t.pages log) x rs n u) small_same i.account));
      tells = omega (arith, b.tells, i.tells, sum_by-append one_compaction (rounds_by s c) rs);
    }

pub booked_run : {s t : State} {log : Log} → Ran s log t → Ready s → BookedRun s log t
booked_run {s} still r = record { account = account_none s r.good; tells = refl }
booked_run (after {s = s} {t = t} {u = u} {c = c} {a = a} {log = log} e rest) r =
    let at : (step s c).1 ≡ t = ap (λ (x : Answer × State). x.1) e in
    let ready = subst Ready at (ready_moved s (step s c).1 r (booked s c r).account.leaves) in
    subst (λ (x : Answer). BookedRun s ((c, x) ∷ log) u) (ap (λ (x : Answer × State). x.0) e)
    (booked_more s c log u r (subst (λ (x : State). BookedRun x log u) (sym at) (booked_run rest ready)))
