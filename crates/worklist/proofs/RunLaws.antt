-- A work list is carried out record by record: what is done so far, and what is left, make up the whole.
use Rattle.std.proofs.Common.{◌≡◌, ℕ, suc, ◌+◌, ◌-◌, ◌*◌, ◌<◌, ◌≤◌, Bool, true, false, cond, leb, List, [], ◌∷◌, ◌++◌, length, take, drop, Some, None, Ok, Err, Option, Result, sym, refl, ap, ◌∙◌, subst, ap₂, ⊎_elim, append_assoc, arith, length-append, length-drop}
use borrow.Rule.Slice.PartMut.{put_mid, put_same}
use Rattle.std.proofs.lemmas.List.{append-nil, drop-drop, drop_all, drop_at, take_at, take_rest}
use Rattle.std.proofs.lemmas.Bool.{le-leb, lt-leb, leb-true, leb-false, cond-true, cond-false, cases_Bool}
use Rattle.rules.specs.Calls.{Call, Answer}
use Rattle.rules.specs.Runs.{Log, accepted, erases_told, erases_of, large_in, small_in, large_groups_in, small_pages_in}
use Rattle.rules.specs.State.{State}
use Rattle.store.specs.Calls.{answer_in, state_after}
use Rattle.worklist.specs.declared.ended.Ended.{Ended}
use Rattle.worklist.specs.declared.fault.ListFault.{ListFault}
use Rattle.worklist.specs.declared.fault.ListFault.TheVariants.{CutShort, NoRoom}
use Rattle.worklist.specs.declared.head.Head.{Head}
use Rattle.worklist.specs.declared.kind.Kind.{Kind}
use Rattle.worklist.specs.declared.kind.Kind.TheVariants.{Flush, Read, Discard, Idle}
use Rattle.worklist.specs.declared.step.Step.{Step}
use Rattle.worklist.specs.Answers.{kind_of, answered}
use Rattle.worklist.specs.Carry.{large_by, small_by, Told}
use Rattle.worklist.specs.Law.{Followed, Bounded, RunsAs}
use Rattle.worklist.specs.Records.{Item, flush_of, read_of, discard_of, idle_round, head_of, set_in, data_length, Found, found_if, body_of, after_head, read_one, Next, taken, stopped, next_as, next_at}
use Rattle.worklist.specs.Runs.{area_then, block_bytes, Progress, begun, call_for, carried, Outcome, ends, onward, ran, room_for, run_of, large_of, small_of, ended_as}
use Rattle.worklist.specs.Totals.{with_step}
use Rattle.worklist.proofs.ListLaw.{follows, bounded}
use Rattle.worklist.proofs.SamePlan.{Same, same_step}

-- ---- a record that is found takes two bytes or more, and lies within the list

module _ (at : ℕ) (f : Found) where
  found_is : (whole : Bool) (x : Item) (n : ℕ) → found_if whole x at n ≡ Ok f → (whole ≡ true) × (f.place ≡ at) × (f.next ≡ at + n)
  found_is true x n e =
      let q : ◌≡◌ {A = Found} (record { item = x; place = at; next = at + n }) f = cc in
      (refl, sym (ap (λ (y : Found). y.place) q), sym (ap (λ (y : Found). y.next) q))
  found_is false x n e = cc

  pub record Lies (n : ℕ) : Type 0 where
    pub here : f.place ≡ at
    pub long : at + 2 ≤ f.next
    pub inside : f.next ≤ at + n

  lies_body : (k : Kind) (b p size : ℕ) (xs : List ℕ) → 2 ≤ length xs → body_of k b p size at xs ≡ Ok f → Lies (length xs)
  lies_body Flush b p size xs h e =
      let n : ℕ = 10 + data_length size xs in
      let q = found_is (leb n (length xs)) (flush_of b (set_in (drop 2 xs)) (take (data_length size xs) (drop 10 xs))) n e in
      let l = leb-true n (length xs) q.0 in
      record { here = q.1; long = omega arith; inside = omega arith }
  lies_body Read b p size xs h e =
      let q = found_is true (read_of b p) 2 e in record { here = q.1; long = omega arith; inside = omega arith }
  lies_body Discard b p size xs h e =
      let q = found_is (leb 10 (length xs)) (discard_of b (set_in (drop 2 xs))) 10 e in
      let l = leb-true 10 (length xs) q.0 in
      record { here = q.1; long = omega arith; inside = omega arith }
  lies_body Idle b p size xs h e = let q = found_is true idle_round 2 e in record { here = q.1; long = omega arith; inside = omega arith }

  lies_after : (r : Result Head ListFault) (size : ℕ) (xs : List ℕ) → 2 ≤ length xs → after_head r size at xs ≡ Ok f → Lies (length xs)
  lies_after (Ok h) size xs l e = lies_body h.kind h.block h.page size xs l e
  lies_after (Err x) size xs l e = cc

  lies_read : (size : ℕ) (xs : List ℕ) → read_one size at xs ≡ Ok f → Lies (length xs)
  unfolding head_of
  lies_read size xs e =
      ⊎_elim
      (λ (t : leb 2 (length xs) ≡ true). lies_after (head_of xs) size xs (leb-true 2 (length xs) t) e)
      (λ (t : leb 2 (length xs) ≡ false).
      let q : head_of xs ≡ Err CutShort = cond-false (leb 2 (length xs)) _ _ t in
      let r : Err CutShort ≡ Ok f = ap (λ (y : Result Head ListFault). after_head y size at xs) (sym q) ∙ e in
      cc)
      (cases_Bool (leb 2 (length xs)))

  next_found : (r : Result Found ListFault) → next_as r ≡ taken f → r ≡ Ok f
  next_found (Ok g) e = cc
  next_found (Err x) e = cc

-- what is taken at a place of a list
pub record TakenAt (xs : List ℕ) (at : ℕ) (f : Found) : Type 0 where
  pub here : f.place ≡ at
  pub long : at + 2 ≤ f.next
  pub inside : f.next ≤ length xs

pub taken_at : (xs : List ℕ) (at size : ℕ) (f : Found) → taken f ≡ next_at xs at size → TakenAt xs at f
unfolding next_at
taken_at xs at size f e =
    ⊎_elim
    (λ (t : leb (length xs) at ≡ true).
    let r : taken f ≡ stopped None = e ∙ cond-true (leb (length xs) at) _ _ t in
    cc)
    (λ (t : leb (length xs) at ≡ false).
    let r : read_one size at (drop at xs) ≡ Ok f =
    next_found at f (read_one size at (drop at xs)) (sym (cond-false (leb (length xs) at) _ _ t) ∙ sym e) in
    let b = lies_read at f size (drop at xs) r in
    record { here = b.here; long = b.long; inside = omega (arith, leb-false (length xs) at t, length-drop at xs, b.inside) })
    (cases_Bool (leb (length xs) at))

-- ---- what is left

module _ (n m : ℕ) (xs : List ℕ) (size room at : ℕ) (w : Progress) (h : n ≡ suc m) where
  ran_next : (x : Next) → x ≡ next_at xs at size → ran n xs size room at w ≡ onward (ran m xs size room) size room x at w
  unfolding ran
  ran_next x e =
      ap (λ k. ran k xs size room at w) h ∙ ap (λ (y : Next). onward (ran m xs size room) size room y at w) (sym e)

  pub ran_stop : (e : Option ListFault) → stopped e ≡ next_at xs at size → ran n xs size room at w ≡ ends e at w
  ran_stop e q = ran_next (stopped e) q

  pub ran_full : (f : Found) → taken f ≡ next_at xs at size → room < length w.answers + room_for size f.item → ran n xs size room at w ≡ ends (Some NoRoom) at w
  ran_full f q l =
      ran_next (taken f) q ∙ cond-false (leb (length w.answers + room_for size f.item) room) _ _ (lt-leb (length w.answers + room_for size f.item) room l)

  pub ran_on :
      (f : Found) → taken f ≡ next_at xs at size → length w.answers + room_for size f.item ≤ room →
      ran n xs size room at w ≡ ran m xs size room f.next (carried size f.item w)
  ran_on f q l =
      ran_next (taken f) q ∙ cond-true (leb (length w.answers + room_for size f.item) room) _ _ (le-leb (length w.answers + room_for size f.item) room l)

-- ---- counts of a log with one call more

erases_more : (log : Log) (e : Call × Answer) → erases_of (log ++ (e ∷ [])) ≡ erases_of log + erases_told e.1
erases_more [] e = omega arith
erases_more (x ∷ log) e = omega (arith, erases_more log e)

large_more :
    (t p : ℕ) (log : Log) (e : Call × Answer) → large_groups_in t p (log ++ (e ∷ [])) ≡ large_groups_in t p log + cond (accepted e.1) (large_in t p e.0) 0
large_more t p [] e = omega arith
large_more t p (x ∷ log) e = omega (arith, large_more t p log e)

small_more :
    (t p : ℕ) (log : Log) (e : Call × Answer) → small_pages_in t p (log ++ (e ∷ [])) ≡ small_pages_in t p log + cond (accepted e.1) (small_in t p e.0) 0
small_more t p [] e = omega arith
small_more t p (x ∷ log) e = omega (arith, small_more t p log e)

-- a store keeps its plan, and one without a state gets none
abbrev pub Alike : Option State → Option State → Type 0
Alike None None = Unit {0}
Alike None (Some t) = ⊥
Alike (Some s) None = ⊥
Alike (Some s) (Some t) = Same s t

pub alike_self : (s : Option State) → Alike s s
alike_self None = tt
alike_self (Some s) = record { plan = refl; pages = refl }

alike_after : (s t : Option State) (c : Call) → Alike s t → Alike s (state_after t c)
alike_after None None c a = tt
alike_after None (Some t) c a = absurd a
alike_after (Some s) None c a = absurd a
alike_after (Some s) (Some t) c a =
    let q = same_step t c in record { plan = q.plan ∙ a.plan; pages = q.pages ∙ a.pages }

large_called : (s t : Option State) (log : Log) (c : Call) (a : Answer) → Alike s t → large_of s (log ++ ((c, a) ∷ [])) ≡ large_of s log + large_by t c a
large_called None None log c a k = omega arith
large_called None (Some t) log c a k = absurd k
large_called (Some s) None log c a k = absurd k
large_called (Some s) (Some t) log c a k =
    large_more s.plan.threshold s.pages log (c, a) ∙
    ap (λ n. large_groups_in s.plan.threshold s.pages log + n)
    (ap₂ (λ (x y : ℕ). cond (accepted a) (large_in x y c) 0) (sym (ap (λ p. p.threshold) k.plan)) (sym k.pages))

small_called : (s t : Option State) (log : Log) (c : Call) (a : Answer) → Alike s t → small_of s (log ++ ((c, a) ∷ [])) ≡ small_of s log + small_by t c a
small_called None None log c a k = omega arith
small_called None (Some t) log c a k = absurd k
small_called (Some s) None log c a k = absurd k
small_called (Some s) (Some t) log c a k =
    small_more s.plan.threshold s.pages log (c, a) ∙
    ap (λ n. small_pages_in s.plan.threshold s.pages log + n)
    (ap₂ (λ (x y : ℕ). cond (accepted a) (small_in x y c) 0) (sym (ap (λ p. p.threshold) k.plan)) (sym k.pages))

-- ---- what is done so far

-- what is left of a buffer from a place on
pub left_long : (n : ℕ) (ys : List ℕ) → length (take (length ys - n) (drop n ys)) ≡ length ys - n
left_long n ys = ap length (take_rest ys n) ∙ length-drop n ys

-- answers are written behind one another: new ones come at the front of what is left of the buffer
put_behind :
    (out new ys : List ℕ) (n k : ℕ) → n ≡ length out → k ≡ length new →
    let zs = out ++ drop (length out) ys in
    let left = take (length zs - n) (drop n zs) in
    put_mid n (length zs - n) zs (new ++ drop k left) ≡ (out ++ new) ++ drop (length (out ++ new)) ys
put_behind out new ys n k e f =
    let zs = out ++ drop (length out) ys in
    let front : take n zs ≡ out = take_at out (drop (length out) ys) n (sym e) in
    let back : drop n zs ≡ drop (length out) ys = drop_at out (drop (length out) ys) n (sym e) in
    let left : take (length zs - n) (drop n zs) ≡ drop (length out) ys = take_rest zs n ∙ back in
    let none : drop (length zs - n) (drop n zs) ≡ [] = drop_all (length zs - n) (drop n zs) (omega (arith, length-drop n zs)) in
    let end : drop k (drop (length out) ys) ≡ drop (length (out ++ new)) ys = drop-drop k (length out) ys ∙ ap (λ m. drop m ys) (omega (arith, length-append out new)) in
    rw (front, left, none, end, append-nil) (sym (append_assoc out new (drop (length (out ++ new)) ys)))

-- a run over the list xs that began in the state s₀ with the buffers ys₀ and area₀, and has come to a place with so much told
pub record Underway (xs : List ℕ) (size : ℕ) (s₀ : Option State) (ys₀ area₀ : List ℕ) (place : ℕ) (t : Ended) (s : Option State) (ys area : List ℕ) : Type 0 where
  pub work : Progress
  pub left :
      ran (length xs + 1 - t.records) xs size (length ys₀) place work ≡ ran (length xs + 1) xs size (length ys₀) 0 (begun s₀ area₀)
  pub state : s ≡ work.state
  pub alike : Alike s₀ work.state
  pub answers : ys ≡ work.answers ++ drop (length work.answers) ys₀
  pub area_is : area ≡ work.area
  pub records : t.records ≡ length work.log
  pub written : t.written ≡ length work.answers
  pub erases : t.erases ≡ erases_of work.log
  pub large : t.large_groups ≡ large_of s₀ work.log
  pub small : t.small_pages ≡ small_of s₀ work.log
  pub few_erases : t.erases ≤ 128 * t.records
  pub few_large : t.large_groups ≤ t.records
  pub few_small : t.small_pages ≤ 64 * t.records
  pub along : t.records ≤ place
  pub inside : place ≤ length xs
  pub fits : t.written ≤ length ys₀

abbrev pub nothing : Ended
nothing = record { fault = None; place = 0; records = 0; written = 0; erases = 0; large_groups = 0; small_pages = 0 }

none_large : (s : Option State) → 0 ≡ large_of s []
none_large None = refl
none_large (Some s) = refl

none_small : (s : Option State) → 0 ≡ small_of s []
none_small None = refl
none_small (Some s) = refl

pub underway_none : (xs : List ℕ) (size : ℕ) (s : Option State) (ys area : List ℕ) → Underway xs size s ys area 0 nothing s ys area
underway_none xs size s ys area =
    record {
      work = begun s area;
      left = ap (λ n. ran n xs size (length ys) 0 (begun s area)) (let e : length xs + 1 - 0 ≡ length xs + 1 = omega arith in e);
      state = refl;
      alike = alike_self s;
      answers = refl;
      area_is = refl;
      records = refl;
      written = refl;
      erases = refl;
      large = none_large s;
      small = none_small s;
      few_erases = omega arith;
      few_large = omega arith;
      few_small = omega arith;
      along = omega arith;
      inside = omega arith;
      fits = omega arith;
    }

module _ (xs : List ℕ) (size : ℕ) (s₀ : Option State) (ys₀ area₀ : List ℕ) (place : ℕ) (t : Ended) (s : Option State) (ys area : List ℕ) (u : Underway xs size s₀ ys₀ area₀ place t s ys area) where
  -- one record more
  pub underway_on :
      (f : Found) (k : Step) (t' : Ended) (place' : ℕ) (s' : Option State) (left' area' : List ℕ) → place' ≡ f.next → taken f ≡ next_at xs place size → t.written + room_for size f.item ≤ length ys₀ →
      let c = call_for size (length area) f.item in
      let left = take (length ys - t.written) (drop t.written ys) in
      Told c (answer_in s c) s s' left left' area area' k → k.written ≤ room_for size f.item → t' ≡ with_step t k →
      Underway xs size s₀ ys₀ area₀ place' t' s' (put_mid t.written (length ys - t.written) ys left') area'
  underway_on f k t' place' s' left' area' goes e room told within on =
      let w = u.work in
      let at = taken_at xs place size f e in
      let c' : Call = call_for size (length area) f.item in
      let c : Call = call_for size (length w.area) f.item in
      let same_call : c' ≡ c = ap (λ (x : List ℕ). call_for size (length x) f.item) u.area_is in
      let left : List ℕ = take (length ys - t.written) (drop t.written ys) in
      let tells :
      Told c (answer_in w.state c) w.state s' left left' area area' k =
      subst (λ (x : Option State). Told c (answer_in x c) x s' left left' area area' k) u.state
      (subst (λ (x : Call). Told x (answer_in s x) s s' left left' area area' k) same_call told) in
      let a : Answer = answer_in w.state c in
      let new : List ℕ = answered (kind_of c) a in
      let done : length xs + 1 - t.records ≡ suc (length xs + 1 - (t.records + 1)) = omega (arith, u.along, at.long, at.inside) in
      subst (λ (y : Ended). Underway xs size s₀ ys₀ area₀ place' y s' (put_mid t.written (length ys - t.written) ys left') area') (sym on)
      (record {
        work = carried size f.item w;
        left =
            sym
            (ran_on (length xs + 1 - t.records) (length xs + 1 - (t.records + 1)) xs size (length ys₀) place w done f e (omega (arith, u.written)) ∙
            ap (λ n. ran (length xs + 1 - (t.records + 1)) xs size (length ys₀) n (carried size f.item w)) (sym goes)) ∙
            u.left;
        state = tells.leaves;
        alike = alike_after s₀ w.state c u.alike;
        answers =
            ap (put_mid t.written (length ys - t.written) ys) tells.answers ∙
            ap (λ (zs : List ℕ). put_mid t.written (length zs - t.written) zs (new ++ drop k.written (take (length zs - t.written) (drop t.written zs)))) u.answers ∙
            put_behind w.answers new ys₀ t.written k.written u.written tells.written;
        area_is = tells.area ∙ ap (λ (x : List ℕ). area_then c (accepted a) (block_bytes w.state) x) u.area_is;
        records = omega (arith, u.records, length-append w.log ((c, a) ∷ []));
        written = omega (arith, u.written, tells.written, length-append w.answers new);
        erases = omega (arith, u.erases, tells.erases, erases_more w.log (c, a));
        large = omega (arith, u.large, tells.large, large_called s₀ w.state w.log c a u.alike);
        small = omega (arith, u.small, tells.small, small_called s₀ w.state w.log c a u.alike);
        few_erases = omega (arith, u.few_erases, tells.few_erases);
        few_large = omega (arith, u.few_large, tells.few_large);
        few_small = omega (arith, u.few_small, tells.few_small);
        along = omega (arith, u.along, at.long, goes);
        inside = omega (arith, at.inside, goes);
        fits = omega (arith, within, room);
      })

  -- the list ends here, for a fault or at its end
  abbrev pub ending : Option ListFault → ℕ → Ended
  ending fault end =
      record {
        fault = fault;
        place = end;
        records = t.records;
        written = t.written;
        erases = t.erases;
        large_groups = t.large_groups;
        small_pages = t.small_pages;
      }

  complete :
      (size' end : ℕ) (fault : Option ListFault) (ys' : List ℕ) → size ≡ size' → end ≡ place → ys' ≡ ys → length xs ≤ 16777216 →
      ran (length xs + 1 - t.records) xs size (length ys₀) place u.work ≡ ends fault place u.work →
      RunsAs s₀ (run_of xs size' (length ys₀) s₀ area₀) ys₀ (ending fault end) s ys' area
  complete size' end fault ys' same_size here same short e =
      let o : Outcome = ends fault place u.work in
      let r : Ended = ending fault end in
      let whole : o ≡ run_of xs size' (length ys₀) s₀ area₀ =
      sym e ∙ u.left ∙ sym (cond-true (leb (length xs) 16777216) _ _ (le-leb (length xs) 16777216 short)) ∙
      ap (λ k. run_of xs k (length ys₀) s₀ area₀) same_size in
      let told : r ≡ ended_as s₀ o =
      λ i. record { fault = fault; place = here i; records = u.records i; written = u.written i; erases = u.erases i; large_groups = u.large i; small_pages = u.small i } in
      let followed : Followed s₀ o.done = subst (λ (x : Outcome). Followed s₀ x.done) (sym whole) (follows xs size' (length ys₀) s₀ area₀) in
      subst (λ (x : Outcome). RunsAs s₀ x ys₀ r s ys' area) whole
      (record {
        tells = told;
        leaves = u.state;
        answered = same ∙ u.answers;
        clears = u.area_is;
        follows = followed;
        bounded = subst (Bounded s₀) (sym told) (bounded s₀ o followed);
      })

  left_some : t.records ≤ length xs → length xs + 1 - t.records ≡ suc (length xs - t.records)
  left_some h = omega arith

  -- at its end, or for a fault
  pub complete_stop :
      (e : Option ListFault) (size' end : ℕ) → size ≡ size' → end ≡ place → length xs ≤ 16777216 → stopped e ≡ next_at xs place size →
      RunsAs s₀ (run_of xs size' (length ys₀) s₀ area₀) ys₀ (ending e end) s ys area
  complete_stop e size' end same_size here short q =
      complete size' end e ys same_size here refl short
      (ran_stop (length xs + 1 - t.records) (length xs - t.records) xs size (length ys₀) place u.work (left_some (omega (arith, u.along, u.inside))) e q)

  -- for want of room
  pub complete_full :
      (f : Found) (size' end : ℕ) → size ≡ size' → end ≡ f.place → length xs ≤ 16777216 → taken f ≡ next_at xs place size →
      length ys₀ < t.written + room_for size f.item → let n = length ys - t.written in RunsAs s₀ (run_of xs size' (length ys₀) s₀ area₀) ys₀ (ending (Some NoRoom) end) s (put_mid t.written n ys (take n (drop t.written ys))) area
  complete_full f size' end same_size here short q room =
      complete size' end (Some NoRoom) _ same_size (here ∙ (taken_at xs place size f q).here) (put_same t.written (length ys - t.written) ys) short
      (ran_full (length xs + 1 - t.records) (length xs - t.records) xs size (length ys₀) place u.work (left_some (omega (arith, u.along, u.inside))) f q (omega (arith, u.written)))
