-- What one record writes and counts, from what its call promises.
use Rattle.std.proofs.Common.{◌≡◌, ℕ, zero, suc, ◌+◌, ◌^◌, ◌<◌, ◌≤◌, Bool, true, false, cond, eqb, ltb, leb, List, [], ◌++◌, length, take, drop, replicate, Some, None, Ok, Err, Option, Result, sym, refl, ap, ◌∙◌, subst, ⊎_elim, arith}
use Rattle.std.specs.Result.{ForOk}
use Rattle.std.proofs.Math.ListN.{drop_of_length-le}
use Rattle.std.proofs.lemmas.List.{append-nil, append_assoc, length-append, length-take-le, take-append-drop, drop_at, drop-append-le}
use Rattle.std.proofs.lemmas.Bool.{leb-true, leb-false, cases_Bool}
use Rattle.flash.specs.Meaning.{Card}
use Rattle.rules.specs.Calls.{Call, flush, read, idle, Report, Answer, refused, done, row_of, flush_number, flushed_as, flushed, told, rested_as, rested, gives, read_number, unless, idle_number}
use Rattle.rules.specs.Moves.{Row, round_as, round, at_rest, fullest}
use Rattle.rules.specs.Runs.{accepted, erases_told}
use Rattle.rules.specs.Sets.{pages_in}
use Rattle.rules.specs.State.{State, dead_of, free_of, held}
use Rattle.rules.proofs.Accepted.{can_flush}
use Rattle.rules.proofs.CardCounts.{clearing_le}
use Rattle.rules.proofs.PageSetLaws.{pages_same}
use Rattle.rules.proofs.SetLaws.{pages_le}
use Rattle.rules.proofs.Steps.{step_is}
use Rattle.store.specs.declared.refusal.StoreRefusal.{StoreRefusal}
use Rattle.store.specs.declared.report.Report.{Report as CodeReport}
use Rattle.store.specs.Calls.{answer_in, state_after, AnsweredAs, FewAs, report_of, way_in, area_after, block_bytes as flash_bytes}
use Rattle.store.specs.Numbers.{number_of}
use Rattle.worklist.specs.declared.step.Step.{Step}
use Rattle.worklist.specs.Answers.{kind_of, answer_of, answered}
use Rattle.worklist.specs.Carry.{Small, large_by, small_by, group_counts, counts_of, Told}
use Rattle.worklist.specs.Runs.{area_then, block_bytes}

-- ---- pages of a set

-- no set of 64 bits has more than 64 pages
pub pages_few : (n g : ℕ) → g < 2 ^ 64 → pages_in n g ≤ 64
pages_few n g h =
    ⊎_elim
    (λ (t : leb n 64 ≡ true). let l = leb-true n 64 t in omega (arith, pages_le n g))
    (λ (t : leb n 64 ≡ false). let l : 64 ≤ n = omega (arith, leb-false n 64 t) in omega (arith, pages_same 64 n g h l, pages_le 64 g))
    (cases_Bool (leb n 64))

-- a set of a block's pages has them all among its 64
pages_all : (n g : ℕ) → g < 2 ^ n → g < 2 ^ 64 → pages_in 64 g ≡ pages_in n g
pages_all n g h k =
    ⊎_elim
    (λ (t : leb n 64 ≡ true). pages_same n 64 g h (leb-true n 64 t))
    (λ (t : leb n 64 ≡ false). let l : 64 ≤ n = omega (arith, leb-false n 64 t) in sym (pages_same 64 n g k l))
    (cases_Bool (leb n 64))

-- ---- a flush

-- its report has room in an answer
pub small_flush : (r : Result CodeReport StoreRefusal) (n g : ℕ) → g < 2 ^ 64 → FewAs r (pages_in n g) → ForOk r Small
small_flush (Ok x) n g wide few =
    let most = pages_few n g wide in
    λ y e.
    let k : x ≡ y = cc in
    subst Small k (record { erases = omega (arith, few.2); compactions = omega (arith, few.0, most); merges = omega (arith, few.0, few.1, most) })
small_flush (Err x) n g wide few = λ y e. cc

module _ (st : State) (d g : ℕ) (bytes : List ℕ) (area : ℕ) (r : Report) (wide : g < 2 ^ 64) where
  abbrev pub group : Call
  group = flush d g bytes area

  abbrev row : Row
  row = row_of st.card.shape.size g bytes

  abbrev n : ℕ
  n = pages_in st.pages g

  abbrev Counted : Bool → Type 0
  Counted b =
      (◌≡◌ {A = ℕ} (cond (eqb r.way 2) 1 0) (cond b 1 0)) × (◌≡◌ {A = ℕ} (cond (eqb r.way 2) 0 (pages_in 64 g)) (cond b 0 n))

  counted : (b : Bool) → pages_in 64 g ≡ n → (flushed_as b st d g row n).0 ≡ done r → Counted b
  counted true all e =
      let w : 2 ≡ r.way = cc in
      (ap (λ k. cond (eqb k 2) 1 0) (sym w), ap (λ k. cond (eqb k 2) 0 (pages_in 64 g)) (sym w))
  counted false all e =
      let w : 1 ≡ r.way = cc in
      (ap (λ k. cond (eqb k 2) 1 0) (sym w), ap (λ k. cond (eqb k 2) 0 (pages_in 64 g)) (sym w) ∙ all)

  -- the way that an accepted group went tells whether it is a large one
  pub group_counted : answer_in (Some st) group ≡ done r → group_counts r.way g ≡ (large_by (Some st) group (done r), small_by (Some st) group (done r))
  unfolding flushed
  group_counted e = go (flush_number st d g (length bytes) area) refl (ap (λ (x : Answer × State). x.0) (sym (step_is st group)) ∙ e)
    where
      go :
          (k : ℕ) → flush_number st d g (length bytes) area ≡ k → (unless k st (flushed st d g row)).0 ≡ done r →
          group_counts r.way g ≡ (large_by (Some st) group (done r), small_by (Some st) group (done r))
      go zero z q =
          let k = counted (ltb st.plan.threshold n) (pages_all st.pages g (can_flush st d g (length bytes) area z).fits wide) q in
          λ i. (k.0 i, k.1 i)
      go (suc k) z q = cc

-- ---- an idle round

-- it makes at most one round
abbrev pub Brief : Answer → Type 0
Brief (refused k) = Unit {0}
Brief (done x) = (x.erases ≤ 1) × (x.compactions ≤ 1) × (x.merges ≤ 1)

module _ (st : State) (area : ℕ) (r : Report) where
  brief_rested : Brief (rested st).0
  unfolding rested round
  brief_rested = go (leb (free_of st) st.plan.idle)
    where
      rounds : (b : Bool) → Brief (told 0 (round_as b (at_rest st)).rounds)
      rounds true = (omega arith, omega arith, omega arith)
      rounds false = (omega (arith, clearing_le st.card (fullest st)), omega arith, omega arith)

      go : (b : Bool) → Brief (rested_as b st).0
      go true = rounds (ltb 0 (dead_of st))
      go false = (omega arith, omega arith, omega arith)

  pub idle_brief : answer_in (Some st) (idle area) ≡ done r → Brief (done r)
  idle_brief e = go (idle_number st area) (ap (λ (x : Answer × State). x.0) (sym (step_is st (idle area))) ∙ e)
    where
      go : (k : ℕ) → (unless k st (rested st)).0 ≡ done r → Brief (done r)
      go zero q = subst Brief q brief_rested
      go (suc k) q = cc

-- its report has room in an answer
pub small_idle : (s : Option State) (area : ℕ) (r : Result CodeReport StoreRefusal) → AnsweredAs r s (idle area) → ForOk r Small
small_idle None area (Ok x) e = cc
small_idle (Some st) area (Ok x) e =
    let b = idle_brief st area (report_of x) e in
    λ y q.
    let k : x ≡ y = cc in
    subst Small k (record { erases = omega (arith, b.0); compactions = omega (arith, b.1); merges = omega (arith, b.2) })
small_idle s area (Err x) e = λ y q. cc

-- ---- what is written and counted

-- a call whose report gives no bytes
told_so :
    (c : Call) (s s' : Option State) (r : Result CodeReport StoreRefusal) (ys ys' ar ar' : List ℕ) (k : Step) → answer_in s c ≡ answer_of r → s' ≡ state_after s c →
    ys' ≡ answered (kind_of c) (answer_of r) ++ drop 4 ys → ar' ≡ area_then c (accepted (answer_of r)) (block_bytes s) ar →
    k.written ≡ 4 → k.erases ≡ erases_told (answer_of r) → k.large ≡ large_by s c (answer_of r) → k.small ≡ small_by s c (answer_of r) →
    k.erases ≤ 128 → k.large ≤ 1 → k.small ≤ 64 → Told c (answer_in s c) s s' ys ys' ar ar' k
told_so c s s' r ys ys' ar ar' k e leaves p w four erases large small few_erases few_large few_small =
    subst (λ (a : Answer). Told c a s s' ys ys' ar ar' k) (sym e)
    (record {
      written = four ∙ length_is r;
      answers = p ∙ ap (λ n. answered (kind_of c) (answer_of r) ++ drop n ys) (sym four);
      area = w;
      erases = erases;
      large = large;
      small = small;
      leaves = leaves;
      few_erases = few_erases;
      few_large = few_large;
      few_small = few_small;
    })
  where
    length_is : (r : Result CodeReport StoreRefusal) → 4 ≡ length (answered (kind_of c) (answer_of r))
    length_is (Ok x) = refl
    length_is (Err x) = refl

-- an answer of four bytes is all of the four that it is written into
pub all_four : (xs ys : List ℕ) → length ys ≡ 4 → xs ≡ xs ++ drop 4 ys
all_four xs ys e = sym (ap (λ (zs : List ℕ). xs ++ zs) (drop_of_length-le ys {i = 4} (omega arith)) ∙ append-nil xs)

-- a page that is read fills what follows its four
pub past_page : (xs ys : List ℕ) (n : ℕ) → length xs ≡ 4 → length ys ≡ n → drop (4 + n) (xs ++ ys) ≡ []
past_page xs ys n e h = drop_of_length-le (xs ++ ys) {i = 4 + n} (omega (arith, length-append xs ys))

-- and without one what follows them stays
pub past_fields : (xs ys : List ℕ) → length xs ≡ 4 → drop 4 (xs ++ ys) ≡ ys
past_fields xs ys e = drop_at xs ys 4 e

-- an answer in the first bytes of the answers, and behind it what was there
pub told_in_front :
    (c : Call) (a : Answer) (s s' : Option State) (ys ys' was is rest ar ar' : List ℕ) (k : Step) → k.written ≤ length ys → was ≡ ys ++ rest → is ≡ ys' ++ rest →
    Told c a s s' ys ys' ar ar' k → Told c a s s' was is ar ar' k
told_in_front c a s s' ys ys' was is rest ar ar' k within e e' told =
    record {
      written = told.written;
      answers =
          e' ∙ ap (λ (xs : List ℕ). xs ++ rest) told.answers ∙ append_assoc (answered (kind_of c) a) (drop k.written ys) rest
          ∙ ap (λ (xs : List ℕ). answered (kind_of c) a ++ xs) (sym (drop-append-le k.written ys rest within) ∙ ap (λ (xs : List ℕ). drop k.written xs) (sym e));
      area = told.area;
      erases = told.erases;
      large = told.large;
      small = told.small;
      leaves = told.leaves;
      few_erases = told.few_erases;
      few_large = told.few_large;
      few_small = told.few_small;
    }

-- an answer in the first four
pub told_in_four :
    (c : Call) (a : Answer) (s s' : Option State) (ys ys' was behind ar ar' : List ℕ) (k : Step) → 4 ≤ length was → ys ≡ take 4 was → behind ≡ drop 4 was → k.written ≡ 4 →
    Told c a s s' ys ys' ar ar' k → Told c a s s' was (ys' ++ behind) ar ar' k
told_in_four c a s s' ys ys' was behind ar ar' k room front after four told =
    let long : length ys ≡ 4 = ap (λ (xs : List ℕ). length xs) front ∙ length-take-le 4 was room in
    let whole : was ≡ ys ++ behind = rw (front, after) (sym (take-append-drop 4 was)) in
    told_in_front c a s s' ys ys' was (ys' ++ behind) behind ar ar' k (omega (arith, four, long)) whole refl told

-- an answer and its page in the first bytes
pub told_in_page :
    (c : Call) (a : Answer) (s s' : Option State) (ys ys' xs' was behind ar : List ℕ) (n : ℕ) (k : Step) → 4 + n ≤ length was → ys ≡ take 4 was → behind ≡ drop 4 was →
    k.written ≤ 4 + length (take n behind) → Told c a s s' (ys ++ take n behind) (ys' ++ xs') ar ar k → Told c a s s' was (ys' ++ (xs' ++ drop n behind)) ar ar k
told_in_page c a s s' ys ys' xs' was behind ar n k room front after within told =
    let long : length ys ≡ 4 = ap (λ (xs : List ℕ). length xs) front ∙ length-take-le 4 was (omega arith) in
    let whole : was ≡ (ys ++ take n behind) ++ drop n behind =
    rw (append_assoc ys (take n behind) (drop n behind), take-append-drop n behind, front, after) (sym (take-append-drop 4 was)) in
    told_in_front c a s s' (ys ++ take n behind) (ys' ++ xs') was (ys' ++ (xs' ++ drop n behind)) (drop n behind) ar ar k
    (omega (arith, within, long, length-append ys (take n behind))) whole (sym (append_assoc ys' xs' (drop n behind))) told

-- what a call answers, as its report or refusal has it
answer_is : (r : Result CodeReport StoreRefusal) (s : Option State) (c : Call) → AnsweredAs r s c → answer_in s c ≡ answer_of r
answer_is (Ok x) s c e = e
answer_is (Err x) s c e = e

-- what a refusal adds
none_large : (s : Option State) (c : Call) (n : ℕ) → 0 ≡ large_by s c (refused n)
none_large None c n = refl
none_large (Some t) c n = refl

none_small : (s : Option State) (c : Call) (n : ℕ) → 0 ≡ small_by s c (refused n)
none_small None c n = refl
none_small (Some t) c n = refl

module _ (s s' : Option State) (card : Card) (on : (t : State) → s ≡ Some t → t.card ≡ card) (ys ys' ar ar' : List ℕ) (r : Result CodeReport StoreRefusal) (n : ℕ) (after : ar' ≡ area_after r (flash_bytes card) ar) where
  -- a flush
  pub flush_told :
      (d g : ℕ) (bytes : List ℕ) (k : Step) → g < 2 ^ 64 → AnsweredAs r s (flush d g bytes (length ar)) → s' ≡ state_after s (flush d g bytes (length ar)) → FewAs r n →
      ys' ≡ answered 1 (answer_of r) ++ drop 4 ys → k.written ≡ 4 → k.erases ≡ erases_told (answer_of r) → (k.large, k.small) ≡ counts_of (answer_of r) g →
      let c = flush d g bytes (length ar) in Told c (answer_in s c) s s' ys ys' ar ar' k
  flush_told d g bytes k wide e leaves few p four erases counts = go s r on after e leaves few p erases counts
    where
      c : Call
      c = flush d g bytes (length ar)

      one : (b : Bool) → cond b 1 0 ≤ 1
      one true = omega arith
      one false = omega arith

      many : (b : Bool) → cond b 0 (pages_in 64 g) ≤ 64
      many true = omega arith
      many false = pages_le 64 g

      go :
          (s : Option State) (r : Result CodeReport StoreRefusal) → ((t : State) → s ≡ Some t → t.card ≡ card) → ar' ≡ area_after r (flash_bytes card) ar →
          AnsweredAs r s c → s' ≡ state_after s c → FewAs r n → ys' ≡ answered 1 (answer_of r) ++ drop 4 ys → k.erases ≡ erases_told (answer_of r) →
          (k.large, k.small) ≡ counts_of (answer_of r) g → Told c (answer_in s c) s s' ys ys' ar ar' k
      go s (Err x) on w e leaves few p erases counts =
          let large : k.large ≡ 0 = ap (λ (q : ℕ × ℕ). q.0) counts in
          let small : k.small ≡ 0 = ap (λ (q : ℕ × ℕ). q.1) counts in
          told_so c s s' (Err x) ys ys' ar ar' k e leaves p w four erases (large ∙ none_large s c (number_of x)) (small ∙ none_small s c (number_of x)) (omega arith) (omega arith) (omega arith)
      go None (Ok x) on w e leaves few p erases counts = cc
      go (Some st) (Ok x) on w e leaves few p erases counts =
          let same = group_counted st d g bytes (length ar) (report_of x) wide e in
          let large : k.large ≡ cond (eqb (way_in x.way) 2) 1 0 = ap (λ (q : ℕ × ℕ). q.0) counts in
          let small : k.small ≡ cond (eqb (way_in x.way) 2) 0 (pages_in 64 g) = ap (λ (q : ℕ × ℕ). q.1) counts in
          told_so c (Some st) s' (Ok x) ys ys' ar ar' k e leaves p
          (w ∙ ap (λ (y : Card). replicate (flash_bytes y) 0 ++ drop (flash_bytes y) ar) (sym (on st refl))) four erases
          (large ∙ ap (λ (q : ℕ × ℕ). q.0) same) (small ∙ ap (λ (q : ℕ × ℕ). q.1) same) (omega (arith, few.2)) (rw large (one (eqb (way_in x.way) 2)))
          (rw small (many (eqb (way_in x.way) 2)))

  -- an idle round
  pub idle_told :
      (k : Step) → AnsweredAs r s (idle (length ar)) → s' ≡ state_after s (idle (length ar)) → ys' ≡ answered 4 (answer_of r) ++ drop 4 ys →
      k ≡ record { written = 4; erases = erases_told (answer_of r); large = 0; small = 0 } →
      let c = idle (length ar) in Told c (answer_in s c) s s' ys ys' ar ar' k
  idle_told k e leaves p counts = go s r on after e leaves p counts
    where
      c : Call
      c = idle (length ar)

      go :
          (s : Option State) (r : Result CodeReport StoreRefusal) → ((t : State) → s ≡ Some t → t.card ≡ card) → ar' ≡ area_after r (flash_bytes card) ar →
          AnsweredAs r s c → s' ≡ state_after s c → ys' ≡ answered 4 (answer_of r) ++ drop 4 ys → k ≡ record { written = 4; erases = erases_told (answer_of r); large = 0; small = 0 } →
          Told c (answer_in s c) s s' ys ys' ar ar' k
      go s (Err x) on w e leaves p counts =
          subst (λ (t : Step). Told c (answer_in s c) s s' ys ys' ar ar' t) (sym counts)
          (told_so c s s' (Err x) ys ys' ar ar' _ e leaves p w refl refl (none_large s c (number_of x)) (none_small s c (number_of x)) (omega arith) (omega arith) (omega arith))
      go None (Ok x) on w e leaves p counts = cc
      go (Some st) (Ok x) on w e leaves p counts =
          let few = idle_brief st (length ar) (report_of x) e in
          subst (λ (t : Step). Told c (answer_in (Some st) c) (Some st) s' ys ys' ar ar' t) (sym counts)
          (told_so c (Some st) s' (Ok x) ys ys' ar ar' _ e leaves p
          (w ∙ ap (λ (y : Card). replicate (flash_bytes y) 0 ++ drop (flash_bytes y) ar) (sym (on st refl))) refl refl refl refl (omega (arith, few.0)) (omega arith) (omega arith))

-- a read changes nothing
pub read_leaves : (s : Option State) (d i n : ℕ) → s ≡ state_after s (read d i n)
read_leaves None d i n = refl
read_leaves (Some st) d i n = ap (λ (x : State). Some x) (sym (ap (λ (x : Answer × State). x.1) (step_is st (read d i n)) ∙ go (read_number st d i n)))
  where
    go : (k : ℕ) → (unless k st (gives st.card (held st d i), st)).1 ≡ st
    go zero = refl
    go (suc k) = refl
