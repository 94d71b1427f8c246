-- What programming and erasing do to the erase counts of a card, and what they leave as it was.
use Rattle.std.proofs.Common.{◌≡◌, ℕ, zero, suc, ◌+◌, ◌<◌, ◌≤◌, Bool, true, false, cond, ltb, ◌≢◌, List, [], ◌∷◌, Some, None, Option, sym, refl, ap, ◌∙◌, subst, inl, inr, arith}
use Rattle.std.proofs.lemmas.List.Sums.{sum_by-set}
use Rattle.std.proofs.lemmas.List.{set_past, length-set, get_or-set_same, get_or-set_other}
use Rattle.std.proofs.lemmas.Bool.{cases_lt, cases_eq}
use Rattle.flash.specs.Meaning.{Card, Block, absent, block_at, block_count, page_at, floor_at, erase_count_at, with_block, programmed, erased}
use Rattle.flash.proofs.CardLaws.{erased_elsewhere}
use Rattle.rules.specs.State.{Slot, live, dead}
use Rattle.rules.specs.Moves.{Row, copied, put, filled, cleared, clearing}
use Rattle.rules.specs.Calls.{cleared_below, clearing_below}
use Rattle.rules.specs.Law.{wear}

-- the same card but for its pages and floors, with e more erases, so that no block has more than e more
pub record Alike (e : ℕ) (c k : Card) : Type 0 where
  pub shape_same : k.shape ≡ c.shape
  pub blocks_same : block_count k ≡ block_count c
  pub wear_is : wear k ≡ wear c + e
  pub each : (b : ℕ) → erase_count_at k b ≤ erase_count_at c b + e

pub alike_refl : (c : Card) → Alike 0 c c
alike_refl c = record { shape_same = refl; blocks_same = refl; wear_is = omega arith; each = λ b. omega arith }

pub alike_then : (e f : ℕ) (a b c : Card) → Alike e a b → Alike f b c → Alike (e + f) a c
alike_then e f a b c p q =
    record {
      shape_same = q.shape_same ∙ p.shape_same;
      blocks_same = q.blocks_same ∙ p.blocks_same;
      wear_is = omega (arith, p.wear_is, q.wear_is);
      each = λ n. omega (arith, p.each n, q.each n);
    }

-- ---- one block is another

alike_with :
    (c : Card) (b : ℕ) (x : Block) (e : ℕ) → b < block_count c → x.erases ≡ erase_count_at c b + e → Alike e c (with_block c b x)
alike_with c b x e h is =
    record {
      shape_same = refl;
      blocks_same = length-set c.blocks b x;
      wear_is = omega (arith, sum_by-set (λ (y : Block). y.erases) c.blocks b x absent h);
      each = λ k.
          elim (cases_eq k b) [
            | inl q ↦
                let here : erase_count_at (with_block c b x) k ≡ x.erases =
                ap (erase_count_at (with_block c b x)) q ∙ ap (λ (y : Block). y.erases) (get_or-set_same c.blocks b x absent h) in
                let was : erase_count_at c k ≡ erase_count_at c b = ap (erase_count_at c) q in
                omega arith
            | inr ne ↦
                let same : erase_count_at (with_block c b x) k ≡ erase_count_at c k =
                ap (λ (y : Block). y.erases) (get_or-set_other c.blocks b k x absent ne) in
                omega arith
          ];
    }

-- a block past the end changes nothing
with_past : (c : Card) (b : ℕ) (x : Block) → block_count c ≤ b → with_block c b x ≡ c
with_past c b x h = ap (λ (bs : List Block). record { shape = c.shape; blocks = bs }) (set_past c.blocks b x h)

pub alike_programmed : (c : Card) (b p : ℕ) (x : List ℕ) → Alike 0 c (programmed c b p x)
unfolding programmed
alike_programmed c b p x =
    elim (cases_lt b (block_count c)) [
      | inl l ↦ alike_with c b _ 0 l (omega arith)
      | inr l ↦ subst (Alike 0 c) (sym (with_past c b _ l)) (alike_refl c)
    ]

pub alike_erased : (c : Card) (b : ℕ) → b < block_count c → Alike 1 c (erased c b)
unfolding erased
alike_erased c b h = alike_with c b _ 1 h refl

-- ---- the moves of a card

alike_put : (c : Card) (b i : ℕ) (o : Option (List ℕ)) → Alike 0 c (put c b i o)
alike_put c b i None = alike_refl c
alike_put c b i (Some x) = alike_programmed c b i x

pub alike_filled : (c : Card) (b : ℕ) (row : Row) (n : ℕ) → Alike 0 c (filled c b row n)
unfolding filled
alike_filled c b row zero = alike_refl c
alike_filled c b row (suc n) =
    alike_then 0 0 c (filled c b row n) (put (filled c b row n) b n (row n)) (alike_filled c b row n)
    (alike_put (filled c b row n) b n (row n))

pub alike_copied : (from to : ℕ) (xs : List Slot) (s t : ℕ) (c : Card) → Alike 0 c (copied from to xs s t c)
unfolding copied
alike_copied from to [] s t c = alike_refl c
alike_copied from to (dead ∷ xs) s t c = alike_copied from to xs (s + 1) t c
alike_copied from to (live d i ∷ xs) s t c =
    let k = programmed c to t (page_at c from s) in
    alike_then 0 0 c k (copied from to xs (s + 1) (t + 1) k) (alike_programmed c to t (page_at c from s))
    (alike_copied from to xs (s + 1) (t + 1) k)

pub alike_cleared : (c : Card) (b : ℕ) → b < block_count c → Alike (clearing c b) c (cleared c b)
alike_cleared c b h = go (ltb 0 (floor_at c b))
  where
    go : (t : Bool) → Alike (cond t 1 0) c (elim t [ true ↦ erased c b | false ↦ c ])
    go true = alike_erased c b h
    go false = alike_refl c

pub clearing_le : (c : Card) (b : ℕ) → clearing c b ≤ 1
clearing_le c b = go (ltb 0 (floor_at c b))
  where
    go : (t : Bool) → ◌≤◌ (cond t 1 0) 1
    go true = omega arith
    go false = omega arith

pub cleared_elsewhere : (c : Card) (b k : ℕ) → k ≢ b → block_at (cleared c b) k ≡ block_at c k
cleared_elsewhere c b k ne = go (ltb 0 (floor_at c b))
  where
    go : (t : Bool) → block_at (elim t [ true ↦ erased c b | false ↦ c ]) k ≡ block_at c k
    go true = erased_elsewhere c b k ne
    go false = refl

-- ---- the blocks that a format clears

pub cleared_below_elsewhere : (n : ℕ) (c : Card) (k : ℕ) → n ≤ k → block_at (cleared_below n c) k ≡ block_at c k
unfolding cleared_below
cleared_below_elsewhere zero c k h = refl
cleared_below_elsewhere (suc n) c k h =
    cleared_elsewhere (cleared_below n c) n k (omega arith) ∙ cleared_below_elsewhere n c k (omega arith)

pub alike_cleared_below : (n : ℕ) (c : Card) → n ≤ block_count c → Alike (clearing_below n c) c (cleared_below n c)
unfolding cleared_below clearing_below
alike_cleared_below zero c h = alike_refl c
alike_cleared_below (suc n) c h =
    let k = cleared_below n c in
    let a = alike_cleared_below n c (omega arith) in
    let same : clearing k n ≡ clearing c n = ap (λ (x : Block). cond (ltb 0 x.floor) 1 0) (cleared_below_elsewhere n c n (omega arith)) in
    subst (λ (e : ℕ). Alike (clearing_below n c + e) c (cleared k n)) same
    (alike_then (clearing_below n c) (clearing k n) c k (cleared k n) a (alike_cleared k n (omega (arith, a.blocks_same))))
