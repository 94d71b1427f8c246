-- Rounds of garbage collection keep faith with the ledger.
use Rattle.std.proofs.Common.{◌≡◌, ℕ, ◌+◌, ◌<◌, ◌≤◌, Bool, true, false, cond, eqb, ◌≢◌, List, [], length, get_or, set, Some, count_by, sym, refl, ap, ◌∙◌, subst, inl, inr, arith}
use Rattle.std.proofs.lemmas.List.{length-set, get_or-set_same, get_or-set_other}
use Rattle.std.proofs.lemmas.List.Elements.{All-get_or}
use Rattle.std.proofs.lemmas.Bool.{cases_eq}
use Rattle.flash.specs.Meaning.{Shape, block_count, page_at, erased}
use Rattle.flash.proofs.CardLaws.{erased_page_elsewhere}
use Rattle.rules.specs.State.{Slot, State, is_at, places, dead_of}
use Rattle.rules.specs.Moves.{Work, kept, copied, compacted_at, rewritten, victim, fullest, no_row, round, rounds_for}
use Rattle.rules.specs.Runs.{Ledger}
use Rattle.rules.specs.Ready.{Filed}
use Rattle.rules.proofs.Sums.{moved_sum}
use Rattle.rules.proofs.Counts.{Freed}
use Rattle.rules.proofs.CardCounts.{alike_copied}
use Rattle.rules.proofs.Rounds.{compacting, compacting_at, merging}
use Rattle.rules.proofs.Works.{round_either, rounds_rule}
use Rattle.rules.proofs.CardPages.{paged_erased, paged_copied, Backed, backed_same, copied_elsewhere, copied_backed}
use Rattle.rules.proofs.Places.{at_kept}
use Rattle.rules.proofs.Faith.{Faith, faith_as}
use Rattle.rules.proofs.FaithMoves.{over, faith_rewritten}

-- what holds of every list where one took the place of the reserve's, and its own is empty
moved_all :
    (P : ℕ → List Slot → Type 0) (t : List (List Slot)) (res v : ℕ) (ks : List Slot) → res < length t → v < length t → P v [] → P res ks →
    (r : ℕ) → (r ≢ v → r ≢ res → P r (get_or t r [])) → P r (get_or (set (set t res ks) v []) r [])
moved_all P t res v ks hr hv pv pr r rest =
    elim (cases_eq r v) [
      | inl q ↦
          subst (λ (m : ℕ). P m (get_or (set (set t res ks) v []) m [])) (sym q)
          (subst (P v) (sym (get_or-set_same (set t res ks) v [] [] (omega (arith, length-set t res ks)))) pv)
      | inr q ↦
          subst (P r) (sym (get_or-set_other (set t res ks) v r [] [] q))
          (elim (cases_eq r res) [
            | inl u ↦ subst (λ (m : ℕ). P m (get_or (set t res ks) m [])) (sym u) (subst (P res) (sym (get_or-set_same t res ks [] hr)) pr)
            | inr u ↦ subst (P r) (sym (get_or-set_other t res r ks [] u)) (rest q u)
          ])
    ]

-- the victim's live pages have their bytes in the old reserve, and no other page is touched
faith_compacted_at : (led : Ledger) (s : State) → Faith led s → (v : ℕ) → Freed s.table s.reserve v → Faith led (compacted_at s v)
unfolding compacted_at places
faith_compacted_at led s f v h =
    let g = f.good in
    let l = s.plan.data in
    let n = s.pages in
    let c = s.card in
    let from = l + v in
    let to = l + s.reserve in
    let xs = get_or s.table v [] in
    let k = copied from to xs 0 0 c in
    let a = alike_copied from to xs 0 0 c in
    let hr : s.reserve < length s.table = omega (arith, g.rows, g.reserve_in) in
    let ne : from ≢ to = λ e. h.apart (omega arith) in
    let hto : to < block_count c = omega (arith, g.reserve_in, g.inside) in
    let short : length xs ≤ n = (All-get_or (Filed l n) s.table v [] h.inside g.filed).short in
    let shape : k.shape.pages ≡ n = ap (λ (x : Shape). x.pages) a.shape_same ∙ sym g.pages_are in
    let other : (e i : ℕ) → e ≢ from → e ≢ to → page_at (erased k from) e i ≡ page_at c e i =
    λ e i p q. erased_page_elsewhere k from e i p ∙ copied_elsewhere from to xs 0 0 c e i q in
    record {
      good = (compacting_at s g v h).leaves.good;
      paged = paged_erased n k from shape (paged_copied n from to xs 0 0 c f.paged);
      within = f.within;
      once = λ d i.
          omega (arith, f.once d i, at_kept d i xs, moved_sum (count_by (is_at d i)) s.table s.reserve v (kept xs) hr h.inside h.apart g.reserve_empty refl);
      slots = λ r.
          moved_all (λ m ys. m < s.plan.region → Backed led (erased k from) (l + m) 0 ys) s.table s.reserve v (kept xs) hr h.inside
          (λ _. tt)
          (λ _.
          backed_same led k (erased k from) to 0 (kept xs) (λ i _. erased_page_elsewhere k from to i (λ e. ne (sym e)))
          (copied_backed n led from to xs 0 0 c ne hto f.paged (omega arith) (f.slots v (omega (arith, g.rows, h.inside)))))
          r
          (λ p q lt.
          backed_same led c (erased k from) (l + r) 0 (get_or s.table r [])
          (λ i _. other (l + r) i (λ e. p (omega arith)) (λ e. q (omega arith))) (f.slots r lt));
      data_pages = λ d i b.
          let o = f.data_pages d i b in
          let hd = (f.within d i (page_at c d i) o).0 in
          o ∙ ap (λ (x : List ℕ). Some x) (sym (other d i (λ e. omega arith) (λ e. omega arith)));
    }

faith_compacted : (led : Ledger) (s : State) → Faith led s → 0 < dead_of s → Faith led (compacted_at s (victim s))
faith_compacted led s f h = faith_compacted_at led s f (victim s) (compacting s f.good h).freed

-- a merge lays nothing over the ledger
over_none : (d : ℕ) (led : Ledger) (e j : ℕ) → over d no_row led e j ≡ led e j
over_none d led e j = go (eqb e d)
  where
    go : (b : Bool) → cond b (led e j) (led e j) ≡ led e j
    go true = refl
    go false = refl

faith_merged : (led : Ledger) (s : State) → Faith led s → Faith led (rewritten s (fullest s) no_row)
faith_merged led s f =
    let d = fullest s in
    faith_as (over d no_row led) led (rewritten s d no_row) (over_none d led)
    (faith_rewritten led s f d no_row (merging s f.good).inside (λ j _. refl))

pub faith_round : (led : Ledger) (w : Work) → Faith led w.state → Faith led (round w).state
faith_round led w f =
    round_either (λ (x : Work). Faith led x.state) w (faith_compacted led w.state f) (λ _. faith_merged led w.state f)

pub faith_rounds : (led : Ledger) (k n : ℕ) (w : Work) → Faith led w.state → Faith led (rounds_for k n w).state
faith_rounds led k n w f =
    rounds_rule n (λ _ x. Faith led x.state) (λ x. Faith led x.state) (λ _ x h _. faith_round led x h) (λ _ _ h _. h) (λ _ h. h) k w f
