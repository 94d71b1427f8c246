-- Where a page is held lies on the card, so that it can be read, and what is gathered for a block are whole pages.
use Rattle.std.proofs.Common.{◌≡◌, ℕ, suc, ◌+◌, ◌^◌, ◌<◌, Bool, true, false, cond, List, [], ◌∷◌, length, get_or, Some, None, Option, sym, refl, ap, ◌∙◌, inl, inr, arith}
use Rattle.std.specs.List.{All}
use Rattle.std.proofs.lemmas.List.Elements.{All-head, All-tail, All-get_or}
use Rattle.std.proofs.lemmas.Bool.{cases_lt, both_ways}
use Rattle.flash.specs.Meaning.{page_at, block_count, Sound}
use Rattle.flash.specs.Refusals.{read_refusal}
use Rattle.flash.proofs.RefusalLaws.{read_accepted}
use Rattle.rules.specs.Sets.{has}
use Rattle.rules.specs.State.{Slot, State, is_at, one_on, slot_for, place_for, held}
use Rattle.rules.specs.Moves.{Row, gathered}
use Rattle.rules.specs.Ready.{Filed}
use Rattle.rules.proofs.SetLaws.{has_high}
use Rattle.rules.proofs.Rounds.{Good}
use Rattle.rules.proofs.ReadyCards.{Sized}

slot_inside : (d i : ℕ) (xs : List Slot) (k : ℕ) → slot_for d i xs ≡ Some k → k < length xs
unfolding slot_for
slot_inside d i [] k e = absurd (let z : ◌≡◌ {A = ℕ} 0 1 = cc in omega arith)
slot_inside d i (x ∷ xs) k e = go (is_at d i x) (slot_for d i xs) e (slot_inside d i xs)
  where
    go :
        (t : Bool) (o : Option ℕ) → cond t (Some 0) (one_on o) ≡ Some k → ((j : ℕ) → o ≡ Some j → j < length xs) →
        k < suc (length xs)
    go true o q rest = let z : 0 ≡ k = cc in omega arith
    go false None q rest = absurd (let z : ◌≡◌ {A = ℕ} 0 1 = cc in omega arith)
    go false (Some j) q rest = let z : suc j ≡ k = cc in omega (arith, rest j refl)

place_inside :
    (l n d i b : ℕ) (t : List (List Slot)) (p : ℕ × ℕ) → All (Filed l n) t → place_for d i b t ≡ Some p →
    (p.0 < b + length t) × (p.1 < n)
unfolding place_for
place_inside l n d i b [] p a e = absurd (let z : ◌≡◌ {A = ℕ} 0 1 = cc in omega arith)
place_inside l n d i b (xs ∷ xss) p a e = go (slot_for d i xs) refl e (place_inside l n d i (b + 1) xss p (All-tail (Filed l n) xs xss a))
  where
    go :
        (o : Option ℕ) → slot_for d i xs ≡ o →
        elim o as (λ _. Option (ℕ × ℕ)) [ Some k ↦ Some (b, k) | None ↦ place_for d i (b + 1) xss ] ≡ Some p →
        (place_for d i (b + 1) xss ≡ Some p → (p.0 < b + 1 + length xss) × (p.1 < n)) →
        (p.0 < b + suc (length xss)) × (p.1 < n)
    go (Some k) q f rest =
        let z : (b, k) ≡ p = cc in
        let block : b ≡ p.0 = ap (λ (x : ℕ × ℕ). x.0) z in
        let page : k ≡ p.1 = ap (λ (x : ℕ × ℕ). x.1) z in
        (omega arith, omega (arith, slot_inside d i xs k q, (All-head (Filed l n) xs xss a).short))
    go None q f rest = let r = rest f in (omega arith, omega arith)

-- the flash page that the maps name for a page of the plan
pub held_inside :
    (s : State) (d i : ℕ) (p : ℕ × ℕ × ℕ) → Good s → d < s.plan.data → held s d i ≡ Some p →
    (p.1 < block_count s.card) × (p.2 < s.card.shape.pages)
unfolding held
held_inside s d i p g hd e = go (has (get_or s.sets d 0) i) refl e
  where
    fits : get_or s.sets d 0 < 2 ^ s.pages
    fits = All-get_or (λ (n : ℕ). n < 2 ^ s.pages) s.sets d 0 (omega (arith, g.sets_are)) g.sets_fit

    there :
        (o : Option (ℕ × ℕ)) → place_for d i s.plan.data s.table ≡ o →
        elim o as (λ _. Option (ℕ × ℕ × ℕ)) [ Some q ↦ Some (1, q.0, q.1) | None ↦ None ] ≡ Some p →
        (p.1 < block_count s.card) × (p.2 < s.card.shape.pages)
    there None q f = absurd (let z : ◌≡◌ {A = ℕ} 0 1 = cc in omega arith)
    there (Some q) h f =
        let z : (1, q.0, q.1) ≡ p = cc in
        let block : q.0 ≡ p.1 = ap (λ (x : ℕ × ℕ × ℕ). x.1) z in
        let page : q.1 ≡ p.2 = ap (λ (x : ℕ × ℕ × ℕ). x.2) z in
        let r = place_inside s.plan.data s.pages d i s.plan.data s.table q g.filed h in
        (omega (arith, g.rows, g.inside), omega (arith, g.pages_are))

    go :
        (t : Bool) → has (get_or s.sets d 0) i ≡ t →
        elim t as (λ _. Option (ℕ × ℕ × ℕ)) [
          | true ↦ Some (2, d, i)
          | false ↦ elim (place_for d i s.plan.data s.table) [ Some q ↦ Some (1, q.0, q.1) | None ↦ None ]
        ] ≡ Some p →
        (p.1 < block_count s.card) × (p.2 < s.card.shape.pages)
    go true q f =
        let z : (2, d, i) ≡ p = cc in
        let block : d ≡ p.1 = ap (λ (x : ℕ × ℕ × ℕ). x.1) z in
        let page : i ≡ p.2 = ap (λ (x : ℕ × ℕ × ℕ). x.2) z in
        let below : i < s.pages =
        elim (cases_lt i s.pages) [
          | inl l ↦ l
          | inr l ↦ absurd (both_ways (has (get_or s.sets d 0) i) (has_high s.pages (get_or s.sets d 0) i fits l) q)
        ] in
        (omega (arith, g.inside), omega (arith, g.pages_are))
    go false q f = there (place_for d i s.plan.data s.table) refl f

-- so it can be read
pub held_reads :
    (s : State) (d i : ℕ) (p : ℕ × ℕ × ℕ) (n : ℕ) → Good s → d < s.plan.data → held s d i ≡ Some p → n ≡ s.card.shape.size →
    read_refusal s.card p.1 p.2 n ≡ None
held_reads s d i p n g hd e len =
    let h = held_inside s d i p g hd e in
    read_accepted s.card p.1 p.2 n (record { block = h.0; page = h.1; bytes = len })

-- and what is gathered for a block are whole pages
pub gathered_sized :
    (s : State) (d : ℕ) (row : Row) → Good s → Sound s.card → d < s.plan.data → Sized s.card.shape.size row →
    Sized s.card.shape.size (gathered s d row)
unfolding gathered
gathered_sized s d row g sound hd sized i x e = go (row i) refl e
  where
    there :
        (o : Option (ℕ × ℕ × ℕ)) → held s d i ≡ o →
        elim o as (λ _. Option (List ℕ)) [ None ↦ None | Some p ↦ Some (page_at s.card p.1 p.2) ] ≡ Some x →
        length x ≡ s.card.shape.size
    there None h f = absurd (let z : ◌≡◌ {A = ℕ} 0 1 = cc in omega arith)
    there (Some p) h f =
        let z : page_at s.card p.1 p.2 ≡ x = cc in
        let q = held_inside s d i p g hd h in
        ap length (sym z) ∙ (sound.each p.1 q.0).page_sizes p.2 q.1

    go :
        (o : Option (List ℕ)) → row i ≡ o →
        elim o as (λ _. Option (List ℕ)) [
          | Some y ↦ Some y
          | None ↦ elim (held s d i) [ None ↦ None | Some p ↦ Some (page_at s.card p.1 p.2) ]
        ] ≡ Some x →
        length x ≡ s.card.shape.size
    go (Some y) h f = sized i x (h ∙ f)
    go None h f = there (held s d i) refl f
