-- Pages appended to the region keep faith with the ledger.
use Rattle.std.proofs.Common.{◌≡◌, ℕ, suc, ◌+◌, ◌<◌, ◌≤◌, true, false, cond, ◌&&◌, eqb, ltb, List, [], ◌∷◌, ◌++◌, length, get_or, set, Some, None, count_by, sym, ap, ◌∙◌, subst, inl, inr, arith}
use Rattle.std.proofs.lemmas.List.Sums.{sum_by-set, sum_by_push}
use Rattle.std.proofs.lemmas.List.{get_or-set_same, get_or-set_other}
use Rattle.std.proofs.lemmas.Bool.{cases_eq}
use Rattle.std.proofs.lemmas.Bool.Decides.{nat_tests}
use Rattle.flash.specs.Meaning.{block_count, page_at, programmed}
use Rattle.flash.proofs.CardLaws.{programmed_page, programmed_page_kept, programmed_page_elsewhere}
use Rattle.rules.specs.declared.plan.Plan.{Plan}
use Rattle.rules.specs.Sets.{has, pages_in}
use Rattle.rules.specs.State.{live, State, is_at, places, free_of}
use Rattle.rules.specs.Moves.{stored_at, appended}
use Rattle.rules.specs.Calls.{row_of}
use Rattle.rules.specs.Runs.{Ledger}
use Rattle.rules.proofs.OpenBlock.{OpenIn}
use Rattle.rules.proofs.Appending.{storing, page_of, appended_rule}
use Rattle.rules.proofs.CardPages.{paged_programmed, Backed, backed_same, backed_more, backed_push}
use Rattle.rules.proofs.Places.{one_at}
use Rattle.rules.proofs.Faith.{one_if, Faith, faith_as}

-- the ledger with one page more
abbrev pub with_page : ℕ → ℕ → List ℕ → Ledger → Ledger
with_page d i x led e j = cond (eqb e d && eqb j i) (Some x) (led e j)

pub faith_stored :
    (led : Ledger) (s : State) → Faith led s → (d i : ℕ) (x : List ℕ) (r : ℕ) → d < s.plan.data → i < s.pages → led d i ≡ None → OpenIn s r →
    Faith (with_page d i x led) (stored_at s d i x (Some r))
unfolding places is_at
faith_stored led s f d i x r hd hi none o =
    let g = f.good in
    let c = s.card in
    let b = s.plan.data + r in
    let xs = get_or s.table r [] in
    let ys = xs ++ (live d i ∷ []) in
    let t = set s.table r ys in
    let k = programmed c b (length xs) x in
    let new = with_page d i x led in
    let hb : b < block_count c = omega (arith, g.inside, o.inside) in
    let ht : r < length s.table = omega (arith, g.rows, o.inside) in
    let keeps : (e j : ℕ) (y : List ℕ) → led e j ≡ Some y → new e j ≡ led e j =
    λ e j y q. grind (arith, nat_tests) in
    let entry : new d i ≡ Some x = grind (arith, nat_tests) in
    record {
      good = (storing s d i x r g hd hi o).leaves.good;
      paged = paged_programmed s.pages c b (length xs) x f.paged;
      within = λ e j y q. let u = f.within e j y in grind (arith, nat_tests);
      once = λ e j.
          let p = sum_by_push (one_at e j) xs (live d i) in
          let u = sum_by-set (count_by (is_at e j)) s.table r ys [] ht in
          let entered : ◌≡◌ {A = ℕ} (cond (eqb e d && eqb j i) 1 0 + one_if (led e j)) (one_if (new e j)) = grind (arith, nat_tests) in
          omega (arith, f.once e j);
      slots = λ q lt.
          elim (cases_eq q r) [
            | inl e ↦
                subst (λ (m : ℕ). Backed new k (s.plan.data + m) 0 (get_or t m [])) (sym e)
                (subst (Backed new k b 0) (sym (get_or-set_same s.table r ys [] ht))
                (backed_push new k b 0 xs d i (length xs) (omega arith)
                (backed_more led new keeps k b 0 xs
                (backed_same led c k b 0 xs (λ m l. programmed_page_kept c b (length xs) x m hb (omega arith)) (f.slots r o.inside)))
                (entry ∙ ap (λ (y : List ℕ). Some y) (sym (programmed_page c b (length xs) x hb (omega (arith, f.paged b hb, o.room)))))))
            | inr e ↦
                subst (Backed new k (s.plan.data + q) 0) (sym (get_or-set_other s.table r q ys [] e))
                (backed_more led new keeps k (s.plan.data + q) 0 (get_or s.table q [])
                (backed_same led c k (s.plan.data + q) 0 (get_or s.table q [])
                (λ m _. programmed_page_elsewhere c b (length xs) x (s.plan.data + q) m (λ u. e (omega arith))) (f.slots q lt)))
          ];
      data_pages = λ e j h.
          let old = f.data_pages e j h in
          let he = (f.within e j (page_at c e j) old).0 in
          keeps e j (page_at c e j) old ∙ old ∙ ap (λ (y : List ℕ). Some y) (sym (programmed_page_elsewhere c b (length xs) x e j (λ u. omega arith)));
    }

-- ---- the pages of a group

-- the ledger with those pages of a group that are below m
abbrev pub with_below : ℕ → ℕ → ℕ → ℕ → List ℕ → Ledger → Ledger
with_below m d size g bytes led e j = cond (eqb e d && (has g j && ltb j m)) (Some (page_of size g bytes j)) (led e j)

module _ (d size g : ℕ) (bytes : List ℕ) (led : Ledger) (m e j : ℕ) where
  -- page m is not of the group
  below_skip : has g m ≡ false → with_below m d size g bytes led e j ≡ with_below (suc m) d size g bytes led e j
  below_skip q =
      elim (cases_eq j m) [
        | inl u ↦ let v : has g j ≡ false = ap (has g) u ∙ q in grind (arith, nat_tests)
        | inr u ↦ grind (arith, nat_tests)
      ]

  -- or it is, and goes into the ledger
  below_store : has g m ≡ true → with_page d m (page_of size g bytes m) (with_below m d size g bytes led) e j ≡ with_below (suc m) d size g bytes led e j
  below_store q =
      elim (cases_eq j m) [
        | inl u ↦ let v : has g j ≡ true = ap (has g) u ∙ q in let w : page_of size g bytes j ≡ page_of size g bytes m = ap (page_of size g bytes) u in grind (arith, nat_tests)
        | inr u ↦ grind (arith, nat_tests)
      ]

-- the pages below n of a group that the ledger has no pages of
pub faith_appended :
    (led : Ledger) (s : State) → Faith led s → (d size g : ℕ) (bytes : List ℕ) → d < s.plan.data → ((j : ℕ) → has g j ≡ true → led d j ≡ None) →
    (n : ℕ) → n ≤ s.pages → pages_in n g ≤ free_of s → Faith (with_below n d size g bytes led) (appended s d (row_of size g bytes) n)
faith_appended led s f d size g bytes hd none n h room =
    let up_to : ℕ → Ledger = λ m. with_below m d size g bytes led in
    let page : ℕ → List ℕ = page_of size g bytes in
    (appended_rule s d size g bytes (λ m t. Faith (up_to m) t) f.good hd
    (faith_as led (up_to 0) s (λ e j. grind (arith, nat_tests)) f)
    (λ m t q k. faith_as (up_to m) (up_to (suc m)) t (λ e j. below_skip d size g bytes led m e j q) k)
    (λ m t r q lt a o k.
    let inside : t.plan.data ≡ s.plan.data = ap (λ (p : Plan). p.data) a.leaves.plan_same in
    let free : up_to m d m ≡ None = let v = none m q in grind (arith, nat_tests) in
    faith_as (with_page d m (page m) (up_to m)) (up_to (suc m)) (stored_at t d m (page m) (Some r)) (λ e j. below_store d size g bytes led m e j q)
    (faith_stored (up_to m) t k d m (page m) r (omega arith) (omega (arith, a.leaves.pages_same)) free o))
    n h room).1
