-- What a pair means, seen from each of its two sides.
use Rattle.std.proofs.Common.{◌≡◌, ℕ, ◌+◌, ◌*◌, ◌/◌, ◌%◌, ◌<◌, ◌≤◌, true, false, eqb, ◌≢◌, Some, Ok, Err, Result, MatchResult, sym, refl, ap, ◌∙◌, ⊎_elim, arith}
use Rattle.std.specs.Option.{ok_or}
use Rattle.std.proofs.lemmas.List.FromFn.{length-map-range_with_len, get_or-map-range_with_len}
use Rattle.std.proofs.lemmas.List.{length-set, get_or-set_same, get_or-set_other, get_or_past}
use Rattle.std.proofs.lemmas.Option.{cond_some}
use Rattle.std.proofs.lemmas.Bool.{cond-true, cond-false, cond_both, cases_lt, cases_Bool}
use Rattle.std.proofs.lemmas.Bool.Decides.{nat_tests}
use Rattle.flash.specs.declared.block.PhysicalBlock.{PhysicalBlock}
use Rattle.flash.specs.declared.geometry.Geometry.{Geometry}
use Rattle.flash.specs.declared.refusal.Refusal.{Refusal}
use Rattle.flash.specs.declared.refusal.Refusal.TheVariants.{NoSuchBlock}
use Rattle.flash.specs.Meaning.{Card, Block, absent, no_card, block_at, block_count, geometry_of, with_block, Sound, SoundBlock}
use Rattle.flash.proofs.CardLaws.{same_geometry}
use Rattle.flash.proofs.SoundLaws.{no_card_sound}
use Rattle.layers.specs.declared.pair.Side.{Side}
use Rattle.layers.specs.declared.pair.Side.TheVariants.{Left, Right}
use Rattle.layers.specs.Pair.{matching, fitting, side_of, side_in, block_on, beside, pair_card}
use Rattle.layers.proofs.FlashLaws.{missing_block, with_count, geometry_with, sound_of}
use Rattle.layers.proofs.MapLaws.{counting_put}
use Rattle.layers.proofs.WhenLaws.{none_when, ok_when, err_when}
use Rattle.layers.proofs.SeenLaws.{Seen}

-- the number in the pair of a block on a side
abbrev number_on : Side → ℕ
number_on (Left k) = 2 * k.0
number_on (Right k) = 2 * k.0 + 1

number_side : (b : ℕ) → number_on (side_of b) ≡ b
number_side b =
    cond_both (eqb (b % 2) 0) (Left (record { 0 = b / 2 })) (Right _) (λ s. number_on s ≡ b)
    (λ e. grind (arith, nat_tests))
    (λ e. grind (arith, nat_tests))

same_side : (i b : ℕ) → side_of i ≡ side_of b → i ≡ b
same_side i b e = sym (number_side i) ∙ ap number_on e ∙ number_side b

-- what is known of two cards that fit
record Fit (l r : Card) : Type 0 where
  counts : block_count l ≡ block_count r
  shapes : l.shape ≡ r.shape
  few : block_count l ≤ 128

fit_from : (l r : Card) → fitting l r ≡ true → Fit l r
fit_from l r e =
    let pages : l.shape.pages ≡ r.shape.pages = grind (arith, nat_tests) in
    let size : l.shape.size ≡ r.shape.size = grind (arith, nat_tests) in
    let endurance : l.shape.endurance ≡ r.shape.endurance = grind (arith, nat_tests) in
    record {
      counts = grind (arith, nat_tests);
      shapes = λ i. record { pages = pages i; size = size i; endurance = endurance i };
      few = grind (arith, nat_tests);
    }

pub pair_fits : (l r : Card) → fitting l r ≡ true → pair_card l r ≡ beside l r
unfolding pair_card
pair_fits l r e = cond-true (fitting l r) (beside l r) no_card e

pub pair_none : (l r : Card) → fitting l r ≡ false → pair_card l r ≡ no_card
unfolding pair_card
pair_none l r e = cond-false (fitting l r) (beside l r) no_card e

beside_count : (l r : Card) → block_count (beside l r) ≡ 2 * block_count l
beside_count l r = length-map-range_with_len (λ b. block_on l r (side_of b)) 0 (2 * block_count l)

-- past the last block of both sides there is none
side_past : (l r : Card) (s : Side) → Fit l r → 2 * block_count l ≤ number_on s → block_on l r s ≡ absent
side_past l r (Left k) fit h = get_or_past l.blocks k.0 absent (omega arith)
side_past l r (Right k) fit h = get_or_past r.blocks k.0 absent (omega arith)

-- a block of two cards side by side is the block on its side
beside_block : (l r : Card) (b : ℕ) → Fit l r → block_at (beside l r) b ≡ block_on l r (side_of b)
beside_block l r b fit =
    ⊎_elim
    (λ (h : b < 2 * block_count l). get_or-map-range_with_len (λ i. block_on l r (side_of i)) 0 (2 * block_count l) b b absent h (omega arith))
    (λ (h : 2 * block_count l ≤ b).
    get_or_past (beside l r).blocks b absent (rw (beside_count l r) h)
    ∙ sym (side_past l r (side_of b) fit (rw (number_side b) h)))
    (cases_lt b (2 * block_count l))

-- a block that lies on a side of two cards that fit
module _ (l r : Card) (b : ℕ) (s : Side) (e : Some s ≡ side_in l r b) where
  side_fits : fitting l r ≡ true
  side_fits = (cond_some (fitting l r) (side_of b) s (sym e)).0

  side_is : s ≡ side_of b
  side_is = sym (cond_some (fitting l r) (side_of b) s (sym e)).1

  side_number : number_on s ≡ b
  side_number = ap number_on side_is ∙ number_side b

  pair_count : block_count (pair_card l r) ≡ 2 * block_count l
  pair_count = ap block_count (pair_fits l r side_fits) ∙ beside_count l r

  pair_shape : (pair_card l r).shape ≡ l.shape
  pair_shape = ap (λ (x : Card). x.shape) (pair_fits l r side_fits)

  pair_block : block_at (pair_card l r) b ≡ block_on l r s
  pair_block =
      ap (λ (x : Card). block_at x b) (pair_fits l r side_fits)
      ∙ beside_block l r b (fit_from l r side_fits)
      ∙ ap (block_on l r) (sym side_is)

  -- a change of this block alone, on its side, is a change of this block alone of the pair
  pair_put :
      (l' r' : Card) (z : Block) → l'.shape ≡ l.shape → block_count l' ≡ block_count l → geometry_of r' ≡ geometry_of r →
      (b < 2 * block_count l → block_on l' r' s ≡ z) → ((t : Side) → t ≢ s → block_on l' r' t ≡ block_on l r t) →
      pair_card l' r' ≡ with_block (pair_card l r) b z
  pair_put l' r' z shape count right here other =
      let left = same_geometry l' l shape count in
      let fits : fitting l' r' ≡ fitting l r = ap (λ (g : Geometry). matching g (geometry_of r')) left ∙ ap (matching (geometry_of l)) right in
      let at_b : b < 2 * block_count l → block_on l' r' (side_of b) ≡ z = λ h. ap (block_on l' r') (sym side_is) ∙ here h in
      let elsewhere : (i : ℕ) → i ≢ b → block_on l' r' (side_of i) ≡ block_on l r (side_of i) = λ i ne. other (side_of i) (λ (q : side_of i ≡ s). ne (same_side i b (q ∙ side_is))) in
      let blocks = counting_put (λ i. block_on l r (side_of i)) (λ i. block_on l' r' (side_of i)) (2 * block_count l) b z at_b elsewhere in
      pair_fits l' r' (fits ∙ side_fits)
      ∙ cc (shape, count, blocks)
      ∙ ap (λ (x : Card). with_block x b z) (sym (pair_fits l r side_fits))

-- one card changed at a block: what lies elsewhere on both sides stays
left_other :
    (l r : Card) (k : PhysicalBlock) (z : Block) (t : Side) → t ≢ Left k → block_on (with_block l k.0 z) r t ≡ block_on l r t
left_other l r k z (Left j) ne =
    get_or-set_other l.blocks k.0 j.0 z absent (λ (e : j.0 ≡ k.0). ne (ap (λ n. Left (record { 0 = n })) e))
left_other l r k z (Right j) ne = refl

right_other :
    (l r : Card) (k : PhysicalBlock) (z : Block) (t : Side) → t ≢ Right k → block_on l (with_block r k.0 z) t ≡ block_on l r t
right_other l r k z (Left j) ne = refl
right_other l r k z (Right j) ne =
    get_or-set_other r.blocks k.0 j.0 z absent (λ (e : j.0 ≡ k.0). ne (ap (λ n. Right (record { 0 = n })) e))

-- a block on the left, seen through the pair
pub seen_left :
    (l r : Card) (b : ℕ) (found : Result Side Refusal) {s : Side} {k : PhysicalBlock} →
    found ≡ ok_or (side_in l r b) NoSuchBlock → found ≡ Ok s → s ≡ Left k →
    Seen (λ (x : Card). pair_card x r) l k.0 b
seen_left l r b found {s} {k} made was is =
    let e = ap Some (sym is) ∙ ok_when (side_in l r b) found NoSuchBlock s made was in
    let count = pair_count l r b (Left k) e in
    let number : 2 * k.0 ≡ b = side_number l r b (Left k) e in
    record {
      there = grind (arith, nat_tests);
      shape = pair_shape l r b (Left k) e;
      block = pair_block l r b (Left k) e;
      put = λ z.
          pair_put l r b (Left k) e (with_block l k.0 z) r z refl (length-set l.blocks k.0 z) refl
          (λ h. get_or-set_same l.blocks k.0 z absent (omega arith)) (left_other l r k z);
    }

-- a block on the right, seen through the pair
pub seen_right :
    (l r : Card) (b : ℕ) (found : Result Side Refusal) {s : Side} {k : PhysicalBlock} →
    found ≡ ok_or (side_in l r b) NoSuchBlock → found ≡ Ok s → s ≡ Right k →
    Seen (λ (x : Card). pair_card l x) r k.0 b
seen_right l r b found {s} {k} made was is =
    let e = ap Some (sym is) ∙ ok_when (side_in l r b) found NoSuchBlock s made was in
    let fit = fit_from l r (side_fits l r b (Right k) e) in
    let count = pair_count l r b (Right k) e in
    let number : 2 * k.0 + 1 ≡ b = side_number l r b (Right k) e in
    record {
      there = grind (arith, nat_tests);
      shape = pair_shape l r b (Right k) e ∙ fit.shapes;
      block = pair_block l r b (Right k) e;
      put = λ z.
          pair_put l r b (Right k) e l (with_block r k.0 z) z refl refl
          (same_geometry (with_block r k.0 z) r refl (length-set r.blocks k.0 z))
          (λ h. get_or-set_same r.blocks k.0 z absent (omega arith)) (right_other l r k z);
    }

-- two that do not fit have no block
pub pair_missing :
    (l r : Card) (b : ℕ) (found : Result Side Refusal) (e : Refusal) →
    found ≡ ok_or (side_in l r b) NoSuchBlock → found ≡ Err e → (block_count (pair_card l r) ≤ b) × (e ≡ NoSuchBlock)
pair_missing l r b found e made was =
    let no = err_when (side_in l r b) found NoSuchBlock e made was in
    (rw (pair_none l r (none_when (fitting l r) (side_of b) no.0)) (omega arith), no.1)

-- what is measured of a block, and is 0 where there is none
pub pair_measure :
    (measure : Block → ℕ) (l r : Card) (b : ℕ) (found : Result Side Refusal) (n : ℕ) → 0 ≡ measure absent →
    found ≡ ok_or (side_in l r b) NoSuchBlock →
    MatchResult found (λ s. n ≡ measure (block_on l r s)) (λ _. n ≡ 0) → n ≡ measure (block_at (pair_card l r) b)
pair_measure measure l r b (Ok s) n none made h =
    h ∙ ap measure (sym (pair_block l r b s (ok_when (side_in l r b) (Ok s) NoSuchBlock s made refl)))
pair_measure measure l r b (Err e) n none made h =
    h ∙ none ∙ ap measure (missing_block (pair_card l r) b (pair_missing l r b (Err e) e made refl).0)

-- the measures of a pair, by the measures g and h of its two sides
module _ (l r : Card) (g h : Geometry) (e : g ≡ geometry_of l) (f : h ≡ geometry_of r) where
  sides_fit : fitting l r ≡ matching g h
  sides_fit = ap (λ (x : Geometry). matching x (geometry_of r)) (sym e) ∙ ap (matching g) (sym f)

  pub pair_geometry : true ≡ matching g h → with_count (2 * g.blocks) g ≡ geometry_of (pair_card l r)
  pair_geometry fit =
      let pair = pair_fits l r (sides_fit ∙ sym fit) in
      geometry_with l (pair_card l r) g (2 * g.blocks) (ap (λ (x : Card). x.shape) pair)
      (ap block_count pair ∙ beside_count l r ∙ ap (λ (x : Geometry). 2 * x.blocks) (sym e)) e

  pub pair_no_geometry : false ≡ matching g h → geometry_of no_card ≡ geometry_of (pair_card l r)
  pair_no_geometry unfit = ap geometry_of (sym (pair_none l r (sides_fit ∙ sym unfit)))

-- the blocks of sound cards are sound on either side
side_sound :
    (l r : Card) (s : Side) → Fit l r → number_on s < 2 * block_count l → Sound l → Sound r → SoundBlock l.shape (block_on l r s)
side_sound l r (Left k) fit h left right = left.each k.0 (omega arith)
side_sound l r (Right k) fit h left right = rw fit.shapes (right.each k.0 (omega arith))

pub pair_sound : (l r : Card) → Sound l → Sound r → Sound (pair_card l r)
pair_sound l r left right =
    ⊎_elim
    (λ (e : fitting l r ≡ true).
    let fit = fit_from l r e in
    let count = beside_count l r in
    rw (pair_fits l r e)
    (sound_of l (beside l r) refl (omega arith) left
    (λ b h. rw (beside_block l r b fit) (side_sound l r (side_of b) fit (rw (number_side b) (rw count at h)) left right))))
    (λ (e : fitting l r ≡ false). rw (pair_none l r e) no_card_sound)
    (cases_Bool (fitting l r))
