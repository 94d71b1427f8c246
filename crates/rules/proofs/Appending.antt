-- Pages appended to the region: while slots are free each finds an open block, and just so many slots more are in use.
use Rattle.std.proofs.Common.{◌≡◌, ℕ, zero, suc, ◌+◌, ◌*◌, ◌<◌, ◌≤◌, Bool, true, false, cond, List, [], ◌∷◌, ◌++◌, length, get_or, take, drop, set, Some, sum_by, Option, sym, refl, ap, ◌∙◌, subst, arith}
use Rattle.std.proofs.lemmas.List.Sums.{sum_by-set, sum_by_push}
use Rattle.std.proofs.lemmas.List.{length-set, get_or-set_other}
use Rattle.std.proofs.lemmas.List.Elements.{All-set, All-get_or}
use Rattle.flash.specs.Meaning.{Shape}
use Rattle.rules.specs.declared.plan.Plan.{Plan}
use Rattle.rules.specs.Sets.{has, pages_in}
use Rattle.rules.specs.State.{Slot, live, State, one_live, one_dead, lives, deads, live_of, dead_of, free_of}
use Rattle.rules.specs.Moves.{stored_at, stored, appended}
use Rattle.rules.specs.Calls.{row_at, row_of}
use Rattle.rules.specs.Ready.{Filed}
use Rattle.rules.proofs.Slots.{filed_push}
use Rattle.rules.proofs.Counts.{all_slots}
use Rattle.rules.proofs.CardCounts.{alike_programmed}
use Rattle.rules.proofs.Rounds.{Good, Taken, taken_none, taken_then}
use Rattle.rules.proofs.OpenBlock.{OpenIn, open_some}
use Rattle.rules.proofs.Space.{capacity_same}

-- one page, into an open block
pub storing :
    (s : State) (d i : ℕ) (x : List ℕ) (r : ℕ) → Good s → d < s.plan.data → i < s.pages → OpenIn s r →
    Taken 1 s (stored_at s d i x (Some r))
storing s d i x r g hd hi o =
    let l = s.plan.data in
    let xs = get_or s.table r [] in
    let ys = xs ++ (live d i ∷ []) in
    let a = alike_programmed s.card (l + r) (length xs) x in
    let ht : r < length s.table = omega (arith, g.rows, o.inside) in
    let F : List Slot → Type 0 = Filed l s.pages in
    let lives_more : sum_by lives (set s.table r ys) ≡ live_of s + 1 =
    omega (arith, sum_by-set lives s.table r ys [] ht, sum_by_push one_live xs (live d i)) in
    let deads_more : sum_by deads (set s.table r ys) ≡ dead_of s =
    omega (arith, sum_by-set deads s.table r ys [] ht, sum_by_push one_dead xs (live d i)) in
    record {
      leaves =
          record {
            plan_same = refl;
            pages_same = refl;
            card_alike = a;
            good =
                record {
                  some_data = g.some_data;
                  inside = omega (arith, a.blocks_same, g.inside);
                  pages_are = g.pages_are ∙ ap (λ (h : Shape). h.pages) (sym a.shape_same);
                  sets_are = g.sets_are;
                  sets_fit = g.sets_fit;
                  rows = length-set s.table r ys ∙ g.rows;
                  reserve_in = g.reserve_in;
                  reserve_empty = get_or-set_other s.table r s.reserve ys [] (λ e. o.apart (sym e)) ∙ g.reserve_empty;
                  filed =
                      All-set F s.table r ys
                      (filed_push l s.pages xs d i (All-get_or F s.table r [] ht g.filed) hd hi o.room) g.filed;
                };
          };
      slots = omega (arith, lives_more, deads_more);
      live_le = omega (arith, lives_more);
    }

-- the bytes of page i of a group
abbrev pub page_of : ℕ → ℕ → List ℕ → ℕ → List ℕ
page_of size g bytes i = take size (drop (pages_in i g * size) bytes)

-- what holds with the pages below n of a group appended, shown page by page: a page that the group lacks, and one that it has
module _ (s : State) (d size g : ℕ) (bytes : List ℕ) (P : ℕ → State → Type 0) where
  pub appended_rule :
      Good s → d < s.plan.data → P 0 s →
      ((m : ℕ) (t : State) → has g m ≡ false → P m t → P (suc m) t) →
      ((m : ℕ) (t : State) (r : ℕ) → has g m ≡ true → m < s.pages → Taken (pages_in m g) s t → OpenIn t r → P m t → P (suc m) (stored_at t d m (page_of size g bytes m) (Some r))) →
      (n : ℕ) → n ≤ s.pages → pages_in n g ≤ free_of s →
      Taken (pages_in n g) s (appended s d (row_of size g bytes) n) × P n (appended s d (row_of size g bytes) n)
  unfolding appended pages_in row_of
  appended_rule good hd start skip store zero h room = (taken_none s good, start)
  appended_rule good hd start skip store (suc n) h room =
      go (has g n) refl (appended_rule good hd start skip store n (omega arith) (omega arith))
    where
      k : State
      k = appended s d (row_of size g bytes) n

      x : List ℕ
      x = page_of size g bytes n

      at :
          has g n ≡ true → Taken (pages_in n g) s k → P n k → (r : ℕ) → OpenIn k r →
          Taken (pages_in n g + 1) s (stored k d n (Some x)) × P (suc n) (stored k d n (Some x))
      at e a p r o =
          let plan : k.plan.data ≡ s.plan.data = ap (λ (q : Plan). q.data) a.leaves.plan_same in
          let pages : k.pages ≡ s.pages = a.leaves.pages_same in
          let t = stored_at k d n x (Some r) in
          subst (λ (z : Option ℕ). Taken (pages_in n g + 1) s (stored_at k d n x z) × P (suc n) (stored_at k d n x z)) (sym o.found)
          (taken_then (pages_in n g) 1 s k t a (storing k d n x r a.leaves.good (omega arith) (omega arith) o), store n k r e (omega arith) a o p)

      go :
          (b : Bool) → has g n ≡ b → Taken (pages_in n g) s k × P n k →
          Taken (pages_in n g + cond b 1 0) s (stored k d n (row_at size g bytes n b)) × P (suc n) (stored k d n (row_at size g bytes n b))
      go true e (a, p) =
          let one : ◌≡◌ {A = ℕ} (cond (has g n) 1 0) 1 = ap (λ (b : Bool). cond b 1 0) e in
          let free : 0 < free_of k =
          omega (arith, capacity_same s k a.leaves, a.slots, all_slots s.table, all_slots k.table) in
          let o = open_some k a.leaves.good free in
          at e a p o.0 o.1
      go false e (a, p) = (subst (λ (m : ℕ). Taken m s k) (omega arith) a, skip n k e p)

-- so many slots more are in use as the group has pages
pub appending :
    (s : State) (d size g : ℕ) (bytes : List ℕ) (n : ℕ) → Good s → d < s.plan.data → n ≤ s.pages → pages_in n g ≤ free_of s →
    Taken (pages_in n g) s (appended s d (row_of size g bytes) n)
appending s d size g bytes n good hd h room =
    (appended_rule s d size g bytes (λ _ _. Unit {0}) good hd tt (λ _ _ _ _. tt) (λ _ _ _ _ _ _ _ _. tt) n h room).0
