-- Which bytes a page holds after a copy and after a block is written anew, and that every block keeps all its pages.
use Rattle.std.proofs.Common.{◌≡◌, ℕ, zero, suc, ◌+◌, ◌<◌, ◌≤◌, Bool, true, false, cond, ltb, ◌≢◌, List, [], ◌∷◌, ◌++◌, map, length, Some, None, Option, sym, refl, ap, ◌∙◌, subst, inl, inr, arith}
use Rattle.std.proofs.lemmas.List.{length-set, length-replicate}
use Rattle.std.proofs.lemmas.Bool.{cases_eq}
use Rattle.flash.specs.Meaning.{Card, Shape, Block, blank_page, block_at, block_count, page_at, floor_at, programmed, erased}
use Rattle.flash.proofs.CardLaws.{programmed_count, programmed_here, programmed_elsewhere, programmed_page, programmed_page_kept, programmed_page_elsewhere, erased_count, erased_here, erased_elsewhere}
use Rattle.rules.specs.State.{Slot, live, dead}
use Rattle.rules.specs.Moves.{Row, retire, kept, copied, put, filled, cleared}
use Rattle.rules.specs.Calls.{cleared_below}
use Rattle.rules.specs.Runs.{Ledger}
use Rattle.rules.proofs.CardCounts.{alike_filled, alike_cleared_below}

-- ---- every block has n pages

abbrev pub Paged : ℕ → Card → Type 0
Paged n c = (b : ℕ) → b < block_count c → length (block_at c b).pages ≡ n

-- one block is another, with as many pages
paged_as :
    (n : ℕ) (c k : Card) (b : ℕ) → block_count k ≡ block_count c → (b < block_count c → length (block_at k b).pages ≡ n) →
    ((e : ℕ) → e ≢ b → block_at k e ≡ block_at c e) → Paged n c → Paged n k
paged_as n c k b same here elsewhere p e lt =
    elim (cases_eq e b) [
      | inl q ↦ subst (λ (x : ℕ). length (block_at k x).pages ≡ n) (sym q) (here (omega arith))
      | inr q ↦ ap (λ (x : Block). length x.pages) (elsewhere e q) ∙ p e (omega arith)
    ]

pub paged_programmed : (n : ℕ) (c : Card) (b i : ℕ) (x : List ℕ) → Paged n c → Paged n (programmed c b i x)
paged_programmed n c b i x p =
    paged_as n c (programmed c b i x) b (programmed_count c b i x)
    (λ h. ap (λ (y : Block). length y.pages) (programmed_here c b i x h) ∙ length-set (block_at c b).pages i x ∙ p b h)
    (programmed_elsewhere c b i x) p

pub paged_erased : (n : ℕ) (c : Card) (b : ℕ) → c.shape.pages ≡ n → Paged n c → Paged n (erased c b)
paged_erased n c b e p =
    paged_as n c (erased c b) b (erased_count c b)
    (λ h. ap (λ (y : Block). length y.pages) (erased_here c b h) ∙ length-replicate c.shape.pages (blank_page c.shape) ∙ e)
    (erased_elsewhere c b) p

pub paged_cleared : (n : ℕ) (c : Card) (b : ℕ) → c.shape.pages ≡ n → Paged n c → Paged n (cleared c b)
paged_cleared n c b e p = go (ltb 0 (floor_at c b))
  where
    go : (t : Bool) → Paged n (elim t [ true ↦ erased c b | false ↦ c ])
    go true = paged_erased n c b e p
    go false = p

pub paged_cleared_below : (n m : ℕ) (c : Card) → m ≤ block_count c → c.shape.pages ≡ n → Paged n c → Paged n (cleared_below m c)
unfolding cleared_below
paged_cleared_below n zero c h e p = p
paged_cleared_below n (suc m) c h e p =
    let same = (alike_cleared_below m c (omega arith)).shape_same in
    paged_cleared n (cleared_below m c) m (ap (λ (x : Shape). x.pages) same ∙ e) (paged_cleared_below n m c (omega arith) e p)

paged_put : (n : ℕ) (c : Card) (b i : ℕ) (o : Option (List ℕ)) → Paged n c → Paged n (put c b i o)
paged_put n c b i None p = p
paged_put n c b i (Some x) p = paged_programmed n c b i x p

pub paged_filled : (n : ℕ) (c : Card) (b : ℕ) (row : Row) (m : ℕ) → Paged n c → Paged n (filled c b row m)
unfolding filled
paged_filled n c b row zero p = p
paged_filled n c b row (suc m) p = paged_put n (filled c b row m) b m (row m) (paged_filled n c b row m p)

pub paged_copied : (n from to : ℕ) (xs : List Slot) (s t : ℕ) (c : Card) → Paged n c → Paged n (copied from to xs s t c)
unfolding copied
paged_copied n from to [] s t c p = p
paged_copied n from to (dead ∷ xs) s t c p = paged_copied n from to xs (s + 1) t c p
paged_copied n from to (live d i ∷ xs) s t c p =
    let x = page_at c from s in
    paged_copied n from to xs (s + 1) (t + 1) (programmed c to t x) (paged_programmed n c to t x p)

-- ---- slots that are backed by their pages

-- the slots of a list stand for the pages s and up of block b, and of each live one the page has the ledger's bytes
abbrev pub Backed : Ledger → Card → ℕ → ℕ → List Slot → Type 0
Backed led c b s [] = Unit {0}
Backed led c b s (live d i ∷ xs) = (led d i ≡ Some (page_at c b s)) × Backed led c b (s + 1) xs
Backed led c b s (dead ∷ xs) = Backed led c b (s + 1) xs

-- on another card with the same pages
pub backed_same :
    (led : Ledger) (c k : Card) (b s : ℕ) (xs : List Slot) → ((i : ℕ) → i < s + length xs → page_at k b i ≡ page_at c b i) →
    Backed led c b s xs → Backed led k b s xs
backed_same led c k b s [] e h = tt
backed_same led c k b s (live d i ∷ xs) e h =
    (h.0 ∙ ap (λ (x : List ℕ). Some x) (sym (e s (omega arith))), backed_same led c k b (s + 1) xs (λ i l. e i (omega arith)) h.1)
backed_same led c k b s (dead ∷ xs) e h = backed_same led c k b (s + 1) xs (λ i l. e i (omega arith)) h

-- after slots have died, by a ledger that has changed at their pages only
pub backed_retired :
    (led new : Ledger) (picks : ℕ → ℕ → Bool) → ((d i : ℕ) → picks d i ≡ false → new d i ≡ led d i) →
    (c : Card) (b s : ℕ) (xs : List Slot) → Backed led c b s xs → Backed new c b s (map (retire picks) xs)
unfolding retire
backed_retired led new picks e c b s [] h = tt
backed_retired led new picks e c b s (live d i ∷ xs) h =
    go (picks d i) refl (backed_retired led new picks e c b (s + 1) xs h.1)
  where
    go :
        (t : Bool) → picks d i ≡ t → Backed new c b (s + 1) (map (retire picks) xs) →
        Backed new c b s (cond t dead (live d i) ∷ map (retire picks) xs)
    go true q r = r
    go false q r = (e d i q ∙ h.0, r)
backed_retired led new picks e c b s (dead ∷ xs) h = backed_retired led new picks e c b (s + 1) xs h

-- by a ledger that has the same pages and more
pub backed_more :
    (led new : Ledger) → ((d i : ℕ) (x : List ℕ) → led d i ≡ Some x → new d i ≡ led d i) →
    (c : Card) (b s : ℕ) (xs : List Slot) → Backed led c b s xs → Backed new c b s xs
backed_more led new e c b s [] h = tt
backed_more led new e c b s (live d i ∷ xs) h = (e d i (page_at c b s) h.0 ∙ h.0, backed_more led new e c b (s + 1) xs h.1)
backed_more led new e c b s (dead ∷ xs) h = backed_more led new e c b (s + 1) xs h

-- with one slot more
pub backed_push :
    (led : Ledger) (c : Card) (b s : ℕ) (xs : List Slot) (d i n : ℕ) → s + length xs ≡ n → Backed led c b s xs →
    led d i ≡ Some (page_at c b n) → Backed led c b s (xs ++ (live d i ∷ []))
backed_push led c b s [] d i n e h l = (l ∙ ap (λ (m : ℕ). Some (page_at c b m)) (omega arith), tt)
backed_push led c b s (live f j ∷ xs) d i n e h l = (h.0, backed_push led c b (s + 1) xs d i n (omega arith) h.1 l)
backed_push led c b s (dead ∷ xs) d i n e h l = backed_push led c b (s + 1) xs d i n (omega arith) h l

-- ---- the copy of a compaction

pub copied_elsewhere :
    (from to : ℕ) (xs : List Slot) (s t : ℕ) (c : Card) (e i : ℕ) → e ≢ to → page_at (copied from to xs s t c) e i ≡ page_at c e i
unfolding copied
copied_elsewhere from to [] s t c e i ne = refl
copied_elsewhere from to (dead ∷ xs) s t c e i ne = copied_elsewhere from to xs (s + 1) t c e i ne
copied_elsewhere from to (live d j ∷ xs) s t c e i ne =
    let x = page_at c from s in
    copied_elsewhere from to xs (s + 1) (t + 1) (programmed c to t x) e i ne ∙ programmed_page_elsewhere c to t x e i ne

copied_below :
    (from to : ℕ) (xs : List Slot) (s t : ℕ) (c : Card) (i : ℕ) → to < block_count c → i < t →
    page_at (copied from to xs s t c) to i ≡ page_at c to i
unfolding copied
copied_below from to [] s t c i h l = refl
copied_below from to (dead ∷ xs) s t c i h l = copied_below from to xs (s + 1) t c i h l
copied_below from to (live d j ∷ xs) s t c i h l =
    let x = page_at c from s in
    copied_below from to xs (s + 1) (t + 1) (programmed c to t x) i (omega (arith, programmed_count c to t x)) (omega arith)
    ∙ programmed_page_kept c to t x i h (omega arith)

-- each live page of the victim has its bytes at its new place
pub copied_backed :
    (n : ℕ) (led : Ledger) (from to : ℕ) (xs : List Slot) (s t : ℕ) (c : Card) → from ≢ to → to < block_count c → Paged n c →
    t + length xs ≤ n → Backed led c from s xs → Backed led (copied from to xs s t c) to t (kept xs)
unfolding copied kept
copied_backed n led from to [] s t c ne h p l b = tt
copied_backed n led from to (dead ∷ xs) s t c ne h p l b = copied_backed n led from to xs (s + 1) t c ne h p (omega arith) b
copied_backed n led from to (live d i ∷ xs) s t c ne h p l b =
    let x = page_at c from s in
    let k = programmed c to t x in
    let hk : to < block_count k = omega (arith, programmed_count c to t x) in
    let e : page_at (copied from to xs (s + 1) (t + 1) k) to t ≡ x =
    copied_below from to xs (s + 1) (t + 1) k t hk (omega arith) ∙ programmed_page c to t x h (omega (arith, p to h)) in (
      b.0 ∙ ap (λ (y : List ℕ). Some y) (sym e),
      copied_backed n led from to xs (s + 1) (t + 1) k ne hk (paged_programmed n c to t x p) (omega arith)
          (backed_same led c k from (s + 1) xs (λ j _. programmed_page_elsewhere c to t x from j ne) b.1),
    )

-- ---- a block written anew

pub filled_elsewhere : (c : Card) (b : ℕ) (row : Row) (n e i : ℕ) → e ≢ b → page_at (filled c b row n) e i ≡ page_at c e i
unfolding filled
filled_elsewhere c b row zero e i ne = refl
filled_elsewhere c b row (suc n) e i ne = go (row n) ∙ filled_elsewhere c b row n e i ne
  where
    go : (o : Option (List ℕ)) → page_at (put (filled c b row n) b n o) e i ≡ page_at (filled c b row n) e i
    go None = refl
    go (Some x) = programmed_page_elsewhere (filled c b row n) b n x e i ne

pub filled_at :
    (m : ℕ) (c : Card) (b : ℕ) (row : Row) (n i : ℕ) (x : List ℕ) → Paged m c → b < block_count c → n ≤ m → i < n → row i ≡ Some x →
    page_at (filled c b row n) b i ≡ x
unfolding filled
filled_at m c b row zero i x p h l lt e = absurd (omega arith)
filled_at m c b row (suc n) i x p h l lt e =
    elim (cases_eq i n) [
      | inl q ↦
          let r : row n ≡ Some x = subst (λ (j : ℕ). row j ≡ Some x) q e in
          subst (λ (o : Option (List ℕ)). page_at (put k b n o) b i ≡ x) (sym r)
          (subst (λ (j : ℕ). page_at (programmed k b n x) b j ≡ x) (sym q)
          (programmed_page k b n x hk (omega (arith, paged_filled m c b row n p b hk))))
      | inr q ↦ go (row n) q ∙ filled_at m c b row n i x p h (omega arith) (omega arith) e
    ]
  where
    k : Card
    k = filled c b row n

    hk : b < block_count k
    hk = omega (arith, (alike_filled c b row n).blocks_same)

    go : (o : Option (List ℕ)) → i ≢ n → page_at (put k b n o) b i ≡ page_at k b i
    go None q = refl
    go (Some y) q = programmed_page_kept k b n y i hk q
