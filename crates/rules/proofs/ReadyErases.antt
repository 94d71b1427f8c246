-- Erases: a block that is not near its endurance may be erased, a card stays sound, and a block that is cleared is blank.
use Rattle.std.proofs.Common.{◌≡◌, ℕ, zero, suc, ◌+◌, ◌<◌, ◌≤◌, Bool, true, false, cond, ltb, None, sym, refl, ap, ◌∙◌, inl, inr, add-one, arith}
use Rattle.std.proofs.lemmas.Bool.{cases_eq, ltb-false}
use Rattle.std.proofs.lemmas.Bool.Decides.{nat_tests}
use Rattle.flash.specs.Meaning.{Card, Shape, Block, block_count, floor_at, erase_count_at, erased, Sound}
use Rattle.flash.specs.Refusals.{erase_refusal}
use Rattle.flash.proofs.CardLaws.{erased_floor}
use Rattle.flash.proofs.RefusalLaws.{CanErase, erase_accepted}
use Rattle.flash.proofs.SoundLaws.{erased_sound}
use Rattle.rules.specs.Moves.{cleared, clearing}
use Rattle.rules.specs.Calls.{near_worn, cleared_below, clearing_below}
use Rattle.rules.proofs.CardCounts.{alike_cleared_below, cleared_elsewhere, cleared_below_elsewhere}

-- ---- wear

-- no block below n is near its endurance
pub far_from_worn :
    (n : ℕ) (c : Card) → near_worn n c ≡ false → (b : ℕ) → b < n → erase_count_at c b + 128 ≤ c.shape.endurance
unfolding near_worn
far_from_worn zero c e b h = absurd (omega arith)
far_from_worn (suc n) c e b h =
    elim (cases_eq b n) [
      | inl q ↦
          let same : erase_count_at c b ≡ erase_count_at c n = ap (erase_count_at c) q in
          grind (arith, nat_tests)
      | inr ne ↦
          let rest : near_worn n c ≡ false = grind (arith, nat_tests) in
          far_from_worn n c rest b (omega arith)
    ]

-- a block below its endurance may be erased
pub erase_lasts : (c : Card) (b : ℕ) → b < block_count c → erase_count_at c b < c.shape.endurance → erase_refusal c b ≡ None
erase_lasts c b h l = erase_accepted c b (record { block = h; below = l })

-- ---- one block cleared

pub cleared_sound : (c : Card) (b : ℕ) → Sound c → b < block_count c → erase_count_at c b < c.shape.endurance → Sound (cleared c b)
cleared_sound c b s h l = go (ltb 0 (floor_at c b))
  where
    go : (t : Bool) → Sound (elim t [ true ↦ erased c b | false ↦ c ])
    go true = erased_sound c b (record { block = h; below = l }) s
    go false = s

pub cleared_floor : (c : Card) (b : ℕ) → b < block_count c → floor_at (cleared c b) b ≡ 0
cleared_floor c b h = go (ltb 0 (floor_at c b)) refl
  where
    go : (t : Bool) → ltb 0 (floor_at c b) ≡ t → floor_at (elim t [ true ↦ erased c b | false ↦ c ]) b ≡ 0
    go true e = erased_floor c b h
    go false e = omega (arith, ltb-false 0 (floor_at c b) e)

-- ---- the blocks that a format clears

-- one block more
pub cleared_below_more : (n : ℕ) (c : Card) → cleared_below (n + 1) c ≡ cleared (cleared_below n c) n
unfolding cleared_below
cleared_below_more n c = ap (λ (k : ℕ). cleared_below k c) (add-one n)

-- its floor and its count are still those of the card before
pub floor_below : (n : ℕ) (c : Card) → floor_at (cleared_below n c) n ≡ floor_at c n
floor_below n c = ap (λ (x : Block). x.floor) (cleared_below_elsewhere n c n (omega arith))

pub erases_below : (n : ℕ) (c : Card) → erase_count_at (cleared_below n c) n ≡ erase_count_at c n
erases_below n c = ap (λ (x : Block). x.erases) (cleared_below_elsewhere n c n (omega arith))

-- so its erase is counted
pub clearing_below_more : (n : ℕ) (c : Card) → clearing_below (n + 1) c ≡ clearing_below n c + clearing (cleared_below n c) n
unfolding clearing_below
clearing_below_more n c =
    ap (λ (k : ℕ). clearing_below k c) (add-one n)
    ∙ ap (λ (f : ℕ). clearing_below n c + cond (ltb 0 f) 1 0) (sym (floor_below n c))

-- and it is accepted
pub can_clear : (n : ℕ) (c : Card) → n < block_count c → erase_count_at c n < c.shape.endurance → CanErase (cleared_below n c) n
can_clear n c h l =
    let a = alike_cleared_below n c (omega arith) in
    let e : (cleared_below n c).shape.endurance ≡ c.shape.endurance = ap (λ (x : Shape). x.endurance) a.shape_same in
    record { block = omega (arith, a.blocks_same); below = omega (arith, erases_below n c) }

pub clear_lasts :
    (n : ℕ) (c : Card) → n < block_count c → erase_count_at c n < c.shape.endurance → erase_refusal (cleared_below n c) n ≡ None
clear_lasts n c h l = erase_accepted (cleared_below n c) n (can_clear n c h l)

pub sound_below :
    (n : ℕ) (c : Card) → Sound c → n ≤ block_count c → ((b : ℕ) → b < n → erase_count_at c b < c.shape.endurance) →
    Sound (cleared_below n c)
unfolding cleared_below
sound_below zero c s h l = s
sound_below (suc n) c s h l =
    let can = can_clear n c (omega arith) (l n (omega arith)) in
    cleared_sound (cleared_below n c) n (sound_below n c s (omega arith) (λ b k. l b (omega arith))) can.block can.below

pub blank_below : (n : ℕ) (c : Card) → n ≤ block_count c → (b : ℕ) → b < n → floor_at (cleared_below n c) b ≡ 0
unfolding cleared_below
blank_below zero c h b l = absurd (omega arith)
blank_below (suc n) c h b l =
    let k = cleared_below n c in
    let a = alike_cleared_below n c (omega arith) in
    elim (cases_eq b n) [
      | inl q ↦ ap (floor_at (cleared k n)) q ∙ cleared_floor k n (omega (arith, a.blocks_same))
      | inr ne ↦ ap (λ (x : Block). x.floor) (cleared_elsewhere k n b ne) ∙ blank_below n c (omega arith) b (omega arith)
    ]
