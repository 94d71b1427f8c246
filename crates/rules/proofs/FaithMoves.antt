-- A data block written anew and pages dropped keep faith with the ledger.
use Rattle.std.proofs.Common.{◌≡◌, ℕ, ◌+◌, ◌^◌, ◌<◌, ◌≤◌, Bool, true, false, cond, not, ◌&&◌, eqb, ◌≢◌, List, [], map, get_or, set, is_some as option_is_some, Some, None, Option, sym, refl, ap, ◌∙◌, subst, ap₂, inl, inr, arith}
use Rattle.std.proofs.lemmas.List.{get_or-set_same, get_or-set_other, get_or-map}
use Rattle.std.proofs.lemmas.List.Elements.{All-get_or}
use Rattle.std.proofs.lemmas.Bool.{cases_lt, cases_eq, cases_Bool, eq-eqb, ne_eqb, and_left, both_ways}
use Rattle.std.proofs.lemmas.Bool.Decides.{nat_tests}
use Rattle.flash.specs.Meaning.{Card, Block, page_at}
use Rattle.rules.specs.Sets.{has, set_of}
use Rattle.rules.specs.State.{State, held, places}
use Rattle.rules.specs.Moves.{Row, retire, retired, of_block, among, dropped, filled, gathered, cleared, rewritten}
use Rattle.rules.specs.Runs.{Ledger}
use Rattle.rules.proofs.SetLaws.{has_high, has_set_of, set_of_below}
use Rattle.rules.proofs.CardCounts.{alike_cleared, cleared_elsewhere}
use Rattle.rules.proofs.Rounds.{Good, marked, dropping, rewriting}
use Rattle.rules.proofs.CardPages.{Paged, paged_cleared, paged_filled, Backed, backed_same, backed_retired, filled_elsewhere, filled_at}
use Rattle.rules.proofs.Places.{named_in, named_retired}
use Rattle.rules.proofs.Faith.{one_if, Faith, holds, holds_not}

-- ---- slots die, and one data block has another set and other pages

-- what has to hold of the new ledger, the new card k, the new set g of block d, and the slots that die
record Marking (led new : Ledger) (s : State) (k : Card) (d g : ℕ) (picks : ℕ → ℕ → Bool) : Type 0 where
  inside : d < s.plan.data
  good : Good (marked s k d g picks)
  paged : Paged s.pages k
  -- at other blocks nothing changes
  elsewhere : (e i : ℕ) → e ≢ d → page_at k e i ≡ page_at s.card e i
  apart : (e j : ℕ) → e ≢ d → picks e j ≡ false
  -- and nothing for pages whose slots do not die
  same : (e j : ℕ) → picks e j ≡ false → new e j ≡ led e j
  set_same : (j : ℕ) → picks d j ≡ false → has g j ≡ has (get_or s.sets d 0) j
  -- of the others the new set has those that the new ledger has
  set_new : (j : ℕ) → picks d j ≡ true → ◌≡◌ {A = ℕ} (cond (has g j) 1 0) (one_if (new d j))
  bytes : (j : ℕ) → has g j ≡ true → new d j ≡ Some (page_at k d j)
  within : (j : ℕ) (x : List ℕ) → new d j ≡ Some x → j < s.pages

-- the state so marked shows the new ledger
faith_marked :
    (led new : Ledger) (s : State) (k : Card) (d g : ℕ) (picks : ℕ → ℕ → Bool) → Faith led s → Marking led new s k d g picks →
    Faith new (marked s k d g picks)
unfolding places
faith_marked led new s k d g picks f m =
    let h = f.good in
    let sets : List ℕ = set s.sets d g in
    let here : get_or sets d 0 ≡ g = get_or-set_same s.sets d g 0 (omega (arith, h.sets_are, m.inside)) in
    let there : (e : ℕ) → e ≢ d → get_or sets e 0 ≡ get_or s.sets e 0 = λ e ne. get_or-set_other s.sets d e g 0 ne in
    record {
      good = m.good;
      paged = m.paged;
      within = λ e j x q.
          elim (cases_eq e d) [
            | inl u ↦ (omega (arith, m.inside), m.within j x (subst (λ (n : ℕ). new n j ≡ Some x) u q))
            | inr u ↦ f.within e j x (sym (m.same e j (m.apart e j u)) ∙ q)
          ];
      once = λ e j.
          let n = named_retired e j picks s.table in
          elim (cases_Bool (picks e j)) [
            | inl p ↦
                elim (cases_eq e d) [
                  | inl u ↦
                      subst (λ (x : ℕ). places (marked s k d g picks) x j ≡ one_if (new x j)) (sym u)
                      (let p' : picks d j ≡ true = subst (λ (x : ℕ). picks x j ≡ true) u p in
                      let n' : named_in d j (retired picks s.table) ≡ 0 =
                      named_retired d j picks s.table ∙ ap (λ (b : Bool). cond b 0 (named_in d j s.table)) p' in
                      let c : ◌≡◌ {A = ℕ} (cond (has (get_or sets d 0) j) 1 0) (cond (has g j) 1 0) = ap (λ (x : ℕ). cond (has x j) 1 0) here in
                      omega (arith, m.set_new j p'))
                  | inr u ↦ absurd (both_ways (picks e j) (m.apart e j u) p)
                ]
            | inr p ↦
                let n' : named_in e j (retired picks s.table) ≡ named_in e j s.table = n ∙ ap (λ (b : Bool). cond b 0 (named_in e j s.table)) p in
                let bit : has (get_or sets e 0) j ≡ has (get_or s.sets e 0) j =
                elim (cases_eq e d) [
                  | inl u ↦
                      subst (λ (x : ℕ). has (get_or sets x 0) j ≡ has (get_or s.sets x 0) j) (sym u)
                      (ap (λ (x : ℕ). has x j) here ∙ m.set_same j (subst (λ (x : ℕ). picks x j ≡ false) u p))
                  | inr u ↦ ap (λ (x : ℕ). has x j) (there e u)
                ] in
                let c : ◌≡◌ {A = ℕ} (cond (has (get_or sets e 0) j) 1 0) (cond (has (get_or s.sets e 0) j) 1 0) = ap (λ (b : Bool). cond b 1 0) bit in
                let o : one_if (new e j) ≡ one_if (led e j) = ap one_if (m.same e j p) in
                omega (arith, f.once e j)
          ];
      slots = λ r lt.
          let b = s.plan.data + r in
          let xs = get_or s.table r [] in
          subst (Backed new k b 0) (sym (get_or-map (map (retire picks)) s.table r [] [] (omega (arith, h.rows))))
          (backed_retired led new picks m.same k b 0 xs
          (backed_same led s.card k b 0 xs (λ i _. m.elsewhere b i (λ e. omega (arith, m.inside))) (f.slots r lt)));
      data_pages = λ e j q.
          elim (cases_eq e d) [
            | inl u ↦
                subst (λ (x : ℕ). new x j ≡ Some (page_at k x j)) (sym u)
                (m.bytes j (ap (λ (x : ℕ). has x j) (sym here) ∙ subst (λ (x : ℕ). has (get_or sets x 0) j ≡ true) u q))
            | inr u ↦
                m.same e j (m.apart e j u)
                ∙ f.data_pages e j (ap (λ (x : ℕ). has x j) (sym (there e u)) ∙ q)
                ∙ ap (λ (y : List ℕ). Some y) (sym (m.elsewhere e j u))
          ];
    }

-- ---- a data block written anew

-- the first, or else the second
abbrev pub or_else : Option (List ℕ) → Option (List ℕ) → Option (List ℕ)
or_else (Some x) y = Some x
or_else None y = y

-- the ledger with a row laid over block d
abbrev pub over : ℕ → Row → Ledger → Ledger
over d row led e j = cond (eqb e d) (or_else (row j) (led e j)) (led e j)

-- the bytes of a page that is held
abbrev read_at : Card → Option (ℕ × ℕ × ℕ) → Option (List ℕ)
read_at c o = elim o [ None ↦ None | Some p ↦ Some (page_at c p.1 p.2) ]

-- the row gathered is the group's over the ledger's
gathered_is : (led : Ledger) (s : State) → Faith led s → (d : ℕ) (row : Row) (j : ℕ) → gathered s d row j ≡ or_else (row j) (led d j)
unfolding gathered
gathered_is led s f d row j = go (row j)
  where
    old : (o : Option (List ℕ)) → led d j ≡ o → read_at s.card (held s d j) ≡ led d j
    old None e = ap (read_at s.card) (holds_not s d j (f.once d j ∙ ap one_if e)) ∙ sym e
    old (Some x) e =
        let z : places s d j ≡ 1 = f.once d j ∙ ap one_if e in
        let h = holds led s f d j (omega arith) in
        ap (read_at s.card) h.found ∙ sym h.bytes

    go : (o : Option (List ℕ)) → elim o [ Some x ↦ Some x | None ↦ read_at s.card (held s d j) ] ≡ or_else o (led d j)
    go None = old (led d j) refl
    go (Some x) = refl

one_some : (o : Option (List ℕ)) → ◌≡◌ {A = ℕ} (cond (option_is_some o) 1 0) (one_if o)
one_some None = refl
one_some (Some x) = refl

is_some : (o : Option (List ℕ)) → option_is_some o ≡ true → (x : List ℕ) × (o ≡ Some x)
is_some None e = absurd (both_ways true (sym e) refl)
is_some (Some x) e = (x, refl)

never : (x : List ℕ) (o : Option (List ℕ)) → o ≡ None → o ≡ Some x → ⊥
never x o e q = let z : ◌≡◌ {A = ℕ} 0 1 = cc in omega arith

-- the ledger has nothing past the pages of a block
past_none : (led : Ledger) (s : State) → Faith led s → (d j : ℕ) → s.pages ≤ j → led d j ≡ None
past_none led s f d j h = go (led d j) refl
  where
    go : (o : Option (List ℕ)) → led d j ≡ o → o ≡ None
    go None e = refl
    go (Some x) e = absurd (omega (arith, (f.within d j x e).1))

pub faith_rewritten :
    (led : Ledger) (s : State) → Faith led s → (d : ℕ) (row : Row) → d < s.plan.data → ((j : ℕ) → s.pages ≤ j → row j ≡ None) →
    Faith (over d row led) (rewritten s d row)
unfolding rewritten
faith_rewritten led s f d row hd past =
    let c = s.card in
    let n = s.pages in
    let c₁ = cleared c d in
    let new = gathered s d row in
    let k = filled c₁ d new n in
    let g = set_of n (λ i. option_is_some (new i)) in
    let a = alike_cleared c d (omega (arith, f.good.inside)) in
    let paged₁ = paged_cleared n c d (sym f.good.pages_are) f.paged in
    let here : (j : ℕ) → over d row led d j ≡ new j =
    λ j. ap (λ (b : Bool). cond b (or_else (row j) (led d j)) (led d j)) (eq-eqb d d refl) ∙ sym (gathered_is led s f d row j) in
    let none : (j : ℕ) → n ≤ j → new j ≡ None =
    λ j h. gathered_is led s f d row j ∙ ap₂ or_else (past j h) (past_none led s f d j h) in
    let bit : (j : ℕ) → has g j ≡ option_is_some (new j) =
    λ j. elim (cases_lt j n) [
      | inl l ↦ has_set_of n (λ i. option_is_some (new i)) j l
      | inr l ↦ has_high n g j (set_of_below n (λ i. option_is_some (new i))) l ∙ ap option_is_some (sym (none j l))
    ] in
    faith_marked led (over d row led) s k d g (of_block d) f
    (record {
      inside = hd;
      good = (rewriting s d row f.good hd).leaves.good;
      paged = paged_filled n c₁ d new n paged₁;
      elsewhere = λ e i ne.
          let old : page_at c₁ e i ≡ page_at c e i = ap (λ (x : Block). get_or x.pages i []) (cleared_elsewhere c d e ne) in
          filled_elsewhere c₁ d new n e i ne ∙ old;
      apart = λ e j ne. ne_eqb e d ne;
      same = λ e j p. ap (λ (b : Bool). cond b (or_else (row j) (led e j)) (led e j)) p;
      set_same = λ j p. absurd (both_ways (eqb d d) p (eq-eqb d d refl));
      set_new = λ j _. rw (bit j, here j) (one_some (new j));
      bytes = λ j q.
          let x = is_some (new j) (sym (bit j) ∙ q) in
          elim (cases_lt j n) [
            | inl l ↦
                let page : page_at k d j ≡ x.0 =
                filled_at n c₁ d new n j x.0 paged₁ (omega (arith, a.blocks_same, f.good.inside)) (omega arith) l x.1 in
                here j ∙ x.1 ∙ ap (λ (y : List ℕ). Some y) (sym page)
            | inr l ↦ absurd (never x.0 (new j) (none j l) x.1)
          ];
      within = λ j x q.
          elim (cases_lt j n) [ inl l ↦ l | inr l ↦ absurd (never x (new j) (none j l) (sym (here j) ∙ q)) ];
    })

-- ---- pages dropped

-- the ledger without those pages of block d that a test picks
abbrev pub without : ℕ → (ℕ → Bool) → Ledger → Ledger
without d picks led e j = cond (eqb e d && picks j) None (led e j)

pub faith_dropped :
    (led : Ledger) (s : State) → Faith led s → (d : ℕ) (picks : ℕ → Bool) → d < s.plan.data → Faith (without d picks led) (dropped s d picks)
unfolding dropped
faith_dropped led s f d picks hd =
    let n = s.pages in
    let old = get_or s.sets d 0 in
    let left : ℕ → Bool = λ i. has old i && not (picks i) in
    let g = set_of n left in
    let old_fits : old < 2 ^ n = All-get_or (λ x. x < 2 ^ n) s.sets d 0 (omega (arith, f.good.sets_are)) f.good.sets_fit in
    let bit : (j : ℕ) → has g j ≡ (has old j && not (picks j)) =
    λ j. elim (cases_lt j n) [
      | inl l ↦ has_set_of n left j l
      | inr l ↦ has_high n g j (set_of_below n left) l ∙ ap (λ (b : Bool). b && not (picks j)) (sym (has_high n old j old_fits l))
    ] in
    faith_marked led (without d picks led) s s.card d g (among d picks) f
    (record {
      inside = hd;
      good = (dropping s d picks f.good).leaves.good;
      paged = f.paged;
      elsewhere = λ e i ne. refl;
      apart = λ e j ne. and_left (eqb e d) (picks j) (ne_eqb e d ne);
      same = λ e j p. ap (λ (b : Bool). cond b None (led e j)) p;
      set_same = λ j p. let b = bit j in let q = eq-eqb d d refl in grind (arith, nat_tests);
      set_new = λ j p. let b = bit j in let q = eq-eqb d d refl in grind (arith, nat_tests);
      bytes = λ j q. let b = bit j in let u = f.data_pages d j in grind (arith, nat_tests);
      within = λ j x q. let u = f.within d j x in grind (arith, nat_tests);
    })
