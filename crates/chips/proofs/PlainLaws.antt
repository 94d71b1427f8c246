-- What the memory and the table of a plain chip mean after each of its writes.
use Rattle.std.proofs.Common.{◌≡◌, ℕ, ◌+◌, ◌*◌, ◌^◌, ◌<◌, ◌≤◌, ◌≢◌, cond, nat_le, List, [], map, length, get_or, take, drop, set, replicate, Some, None, sym, refl, ap, ◌∙◌, inl, inr, ⊎_elim, mul_assoc, add-mul, zero-add, arith}
use borrow.Rule.Slice.PartMut.{put_mid}
use Rattle.std.specs.List.{range_with_len}
use Rattle.std.proofs.lemmas.List.{get_or-set_same, get_or-set_other, length-replicate, get_or-replicate}
use Rattle.std.proofs.lemmas.Bool.Decides.{nat_tests}
use Rattle.flash.specs.declared.geometry.Geometry.{Geometry}
use Rattle.flash.specs.declared.making.MakingFault.{MakingFault}
use Rattle.flash.specs.declared.making.MakingFault.TheVariants.{OutOfLimits, MemoryShort}
use Rattle.flash.specs.Limits.{within_limits}
use Rattle.flash.specs.Meaning.{Block, Card, absent, blank_block, blank_card, no_card, block_at, block_count, page_at, floor_at, erase_count_at, geometry_of, with_block, programmed, erased, Sound}
use Rattle.flash.specs.Refusals.{why_not_program, why_not_erase}
use Rattle.flash.proofs.RefusalLaws.{CanProgram, CanErase}
use Rattle.flash.proofs.SoundLaws.{Limited, limited, blank_card_sound, no_card_sound, programmed_sound, erased_sound, open_sound}
use Rattle.chips.specs.declared.table.Entry.{Entry}
use Rattle.chips.specs.Layout.{pages_length, all_spans, span_start, page_place, page_in, fitting_fault}
use Rattle.chips.specs.Plain.{plain_card, plain_block, plain_length, plain_fault, made_card, row, unused}
use Rattle.chips.proofs.Cards.{same_block, laid_count, laid_geometry, laid_here, laid_absent, laid_with, laid_blank, can_program_as, can_erase_as}
use Rattle.chips.proofs.Counting.{counting_at, counting_replicate, counting_same, counting_set}
use Rattle.chips.proofs.Rows.{rows_apart, rows_order, length_put, part_at, part_outside, part_filled}

module _ (g : Geometry) (m : List ℕ) (t : List Entry) where
  pub plain_count : block_count (plain_card g m t) ≡ g.blocks
  unfolding plain_card
  plain_count = laid_count g (plain_block g m t)

  pub plain_geometry : g ≡ geometry_of (plain_card g m t)
  unfolding plain_card
  plain_geometry = laid_geometry g (plain_block g m t)

  pub plain_here : (b : ℕ) → b < g.blocks → block_at (plain_card g m t) b ≡ plain_block g m t b
  unfolding plain_card
  plain_here b h = laid_here g (plain_block g m t) b h

  pub plain_absent : (b : ℕ) → g.blocks ≤ b → block_at (plain_card g m t) b ≡ absent
  unfolding plain_card
  plain_absent b h = laid_absent g (plain_block g m t) b h

  pub plain_page : (b p : ℕ) → b < g.blocks → p < g.pages → page_at (plain_card g m t) b p ≡ row g.size (b * g.pages + p) m
  plain_page b p h k =
      ap (λ (y : Block). get_or y.pages p []) (plain_here b h)
      ∙ counting_at (λ q. row g.size (b * g.pages + q) m) g.pages p [] k

-- where the layout of a plain chip has its pages, its blocks and their end
module _ (g : Geometry) where
  page_row : (b p : ℕ) → page_place 0 g b p ≡ (b * g.pages + p) * g.size
  page_row b p = omega (arith, add-mul (b * g.pages) p g.size, mul_assoc b g.pages g.size)

  block_row : (b : ℕ) → span_start 0 g b ≡ b * (g.pages * g.size)
  block_row b = ap (λ n. b * n) (zero-add (g.pages * g.size))

  all_rows : all_spans 0 g ≡ plain_length g
  all_rows = omega (arith, mul_assoc g.blocks g.pages g.size)

-- a page as it lies in memory is the card's
pub plain_found :
    (g : Geometry) (m : List ℕ) (t : List Entry) (b p : ℕ) → b < g.blocks → p < g.pages → page_in 0 g m b p ≡ page_at (plain_card g m t) b p
plain_found g m t b p h k = ap (λ n. take g.size (drop n m)) (page_row g b p) ∙ sym (plain_page g m t b p h k)

-- a page lies within the memory
pub page_end : (g : Geometry) (b p : ℕ) → b < g.blocks → p < g.pages → (b * g.pages + p) * g.size + g.size ≤ plain_length g
page_end g b p h k = rows_apart g.size (b * g.pages + p) (g.blocks * g.pages) (let r = rows_apart g.pages b g.blocks h in omega arith)

-- and so does a block
pub block_end : (g : Geometry) (b : ℕ) → b < g.blocks → b * (g.pages * g.size) + g.pages * g.size ≤ plain_length g
block_end g b h = let r = rows_apart (g.pages * g.size) b g.blocks h in omega (arith, mul_assoc g.blocks g.pages g.size)

-- pages of different places do not overlap
pages_apart : (per b k p q : ℕ) → p < per → q < per → (k ≢ b) → k * per + q ≢ b * per + p
pages_apart per b k p q h l ne e =
    ⊎_elim (λ (i : k * per + per ≤ b * per). omega arith) (λ (i : b * per + per ≤ k * per). omega arith) (rows_order per k b ne)

row_other :
    (m ys : List ℕ) (s j k : ℕ) → k * s + s ≤ length m → length ys ≡ s → j ≢ k →
    row s j (put_mid (k * s) s m ys) ≡ row s j m
row_other m ys s j k fits len ne = part_outside m ys (k * s) s fits len (j * s) s (rows_order s j k ne)

module _ (g : Geometry) (m : List ℕ) (t : List Entry) (room : plain_length g ≤ length m) (entries : g.blocks ≤ length t) (b : ℕ) (h : b < g.blocks) where
  -- block b of the table is another, and each block's pages are as told
  written :
      (m' : List ℕ) (e : Entry) (ps : List (List ℕ)) →
      map (λ q. row g.size (b * g.pages + q) m') (range_with_len 0 g.pages) ≡ ps →
      ((k q : ℕ) → k < g.blocks → k ≢ b → q < g.pages → row g.size (k * g.pages + q) m' ≡ row g.size (k * g.pages + q) m) →
      plain_card g m' (set t b e) ≡ with_block (plain_card g m t) b (record { pages = ps; floor = e.floor; erases = e.erases })
  unfolding plain_card
  written m' e ps here there =
      let new : get_or (set t b e) b unused ≡ e = get_or-set_same t b e unused (omega arith) in
      laid_with g (plain_block g m t) (plain_block g m' (set t b e)) b _ h
      (same_block _ _ _ _ _ _ here (ap (λ (y : Entry). y.floor) new) (ap (λ (y : Entry). y.erases) new))
      (λ k l ne.
      let old : get_or (set t b e) k unused ≡ get_or t k unused = get_or-set_other t b k e unused ne in
      same_block _ _ _ _ _ _
      (counting_same (λ q. row g.size (k * g.pages + q) m') (λ q. row g.size (k * g.pages + q) m) g.pages (λ q i. there k q l ne i))
      (ap (λ (y : Entry). y.floor) old) (ap (λ (y : Entry). y.erases) old))

  -- a page put into the memory, and the floor raised above it
  pub plain_programmed :
      (p n : ℕ) (x : List ℕ) → p < g.pages → length x ≡ g.size → n ≡ erase_count_at (plain_card g m t) b →
      plain_card g (put_mid ((b * g.pages + p) * g.size) g.size m x) (set t b (record { floor = p + 1; erases = n }))
      ≡ programmed (plain_card g m t) b p x
  unfolding plain_card programmed
  plain_programmed p n x k len count =
      let m' : List ℕ = put_mid ((b * g.pages + p) * g.size) g.size m x in
      let old : block_at (plain_card g m t) b ≡ plain_block g m t b = plain_here g m t b h in
      let fits : (b * g.pages + p) * g.size + g.size ≤ length m = omega (arith, page_end g b p h k) in
      written m' (record { floor = p + 1; erases = n }) (set (map (λ q. row g.size (b * g.pages + q) m) (range_with_len 0 g.pages)) p x)
      (counting_set (λ q. row g.size (b * g.pages + q) m) (λ q. row g.size (b * g.pages + q) m') g.pages p x k
      (part_at m x ((b * g.pages + p) * g.size) g.size fits len)
      (λ q l ne. row_other m x g.size (b * g.pages + q) (b * g.pages + p) fits len (λ e. ne (omega arith))))
      (λ j q l ne i. row_other m x g.size (j * g.pages + q) (b * g.pages + p) fits len (pages_apart g.pages b j p q k i ne))
      ∙ ap (with_block (plain_card g m t) b) (same_block _ _ _ _ _ _ (ap (λ (y : Block). set y.pages p x) (sym old)) refl count)

  -- the bytes of a block set to 255, its floor to 0, and the erase counted
  pub plain_erased :
      (n : ℕ) → n ≡ erase_count_at (plain_card g m t) b →
      plain_card g (put_mid (b * (g.pages * g.size)) (g.pages * g.size) m (replicate (g.pages * g.size) 255)) (set t b (record { floor = 0; erases = n + 1 }))
      ≡ erased (plain_card g m t) b
  unfolding plain_card erased
  plain_erased n count =
      let z : ℕ = g.pages * g.size in
      let a : ℕ = b * z in
      let m' : List ℕ = put_mid a z m (replicate z 255) in
      let fits : a + z ≤ length m = omega (arith, block_end g b h) in
      written m' (record { floor = 0; erases = n + 1 }) (replicate g.pages (replicate g.size 255))
      (counting_replicate (λ q. row g.size (b * g.pages + q) m') g.pages (replicate g.size 255) (λ q i.
      let u = add-mul (b * g.pages) q g.size in
      let w = mul_assoc b g.pages g.size in
      let v = rows_apart g.size q g.pages i in
      part_filled m a z ((b * g.pages + q) * g.size) g.size 255 fits (omega arith) (omega arith)))
      (λ j q l ne i.
      let u = add-mul (j * g.pages) q g.size in
      let w = mul_assoc j g.pages g.size in
      let v = rows_apart g.size q g.pages i in
      part_outside m (replicate z 255) a z fits (length-replicate z 255) ((j * g.pages + q) * g.size) g.size
      (⊎_elim (λ (f : j * z + z ≤ b * z). inl (omega arith)) (λ (f : b * z + z ≤ j * z). inr (omega arith)) (rows_order z j b ne)))
      ∙ ap (λ k. with_block (plain_card g m t) b (blank_block (plain_card g m t).shape (k + 1))) count

-- what the chip's checks tell of its card
module _ (g : Geometry) (m : List ℕ) (t : List Entry) (b : ℕ) where
  pub plain_can_program : (p n f : ℕ) → f ≡ floor_at (plain_card g m t) b → None ≡ why_not_program g f b p n → CanProgram (plain_card g m t) b p n
  plain_can_program = can_program_as (plain_card g m t) g (plain_geometry g m t) b

  pub plain_can_erase : (k : ℕ) → k ≡ erase_count_at (plain_card g m t) b → None ≡ why_not_erase g k b → CanErase (plain_card g m t) b
  plain_can_erase = can_erase_as (plain_card g m t) g (plain_geometry g m t) b

  pub plain_in : b < block_count (plain_card g m t) → b < g.blocks
  plain_in h = rw (plain_count g m t) at h

  pub plain_put_end : (p n a : ℕ) → plain_length g ≤ length m → CanProgram (plain_card g m t) b p n → a ≡ page_place 0 g b p → a + n ≤ length m
  unfolding plain_card
  plain_put_end p n a room can at = omega (arith, page_row g b p, page_end g b p (plain_in can.block) can.page, can.bytes)

  pub plain_clear_end : (a l : ℕ) → plain_length g ≤ length m → CanErase (plain_card g m t) b → a ≡ span_start 0 g b → l ≡ pages_length g → a + l ≤ length m
  plain_clear_end a l room can at all = omega (arith, block_row g b, block_end g b (plain_in can.block))

  -- a count that may rise fits its 32 bits
  pub plain_below : (n : ℕ) → n ≡ erase_count_at (plain_card g m t) b → ∥ Sound (plain_card g m t) ∥₁ → CanErase (plain_card g m t) b → n + 1 < 2 ^ 32
  plain_below n count s can =
      let sound = open_sound (plain_card g m t) s in
      omega (arith, can.below, sound.endurance_high)

-- what a chip keeps of its memory and its table, and the card that they mean
pub record PlainOf (g : Geometry) (m : List ℕ) (t : List Entry) (c : Card) : Type 0 where
  pub room : plain_length g ≤ length m
  pub whole : ∥ Sound (plain_card g m t) ∥₁
  pub means : plain_card g m t ≡ c

plain_of : (g : Geometry) (m : List ℕ) (t : List Entry) (c : Card) → plain_length g ≤ length m → plain_card g m t ≡ c → Sound c → PlainOf g m t c
plain_of g m t c room means sound = record { room = room; whole = rw means (∣ sound ∣₁); means = means }

-- a write of the chip
module _
    (g : Geometry) (m m' : List ℕ) (t : List Entry) (room : plain_length g ≤ length m) (whole : ∥ Sound (plain_card g m t) ∥₁)
    (entries : length t ≡ 256) (few : g.blocks ≤ 256) (b : ℕ) where
  pub plain_put :
      (p a n : ℕ) (x : List ℕ) → CanProgram (plain_card g m t) b p (length x) → n ≡ erase_count_at (plain_card g m t) b →
      a ≡ page_place 0 g b p → m' ≡ put_mid a (length x) m x →
      PlainOf g m' (set t b (record { floor = p + 1; erases = n })) (programmed (plain_card g m t) b p x)
  unfolding plain_card
  plain_put p a n x can count at put =
      plain_of g m' (set t b (record { floor = p + 1; erases = n })) (programmed (plain_card g m t) b p x)
      (rw (put, length_put m x a (length x) (plain_put_end g m t b p (length x) a room can at) refl) room)
      (rw (put, at, page_row g b p, can.bytes) (plain_programmed g m t room (omega arith) b (plain_in g m t b can.block) p n x can.page can.bytes count))
      (programmed_sound (plain_card g m t) b p x can (open_sound (plain_card g m t) whole))

  pub plain_clear :
      (a l n : ℕ) → CanErase (plain_card g m t) b → n ≡ erase_count_at (plain_card g m t) b →
      a ≡ span_start 0 g b → l ≡ pages_length g → m' ≡ put_mid a l m (replicate l 255) →
      PlainOf g m' (set t b (record { floor = 0; erases = n + 1 })) (erased (plain_card g m t) b)
  plain_clear a l n can count at all clear =
      plain_of g m' (set t b (record { floor = 0; erases = n + 1 })) (erased (plain_card g m t) b)
      (rw (clear, length_put m (replicate l 255) a l (plain_clear_end g m t b a l room can at all) (length-replicate l 255)) room)
      (rw (clear, at, block_row g b, all) (plain_erased g m t room (omega arith) b (plain_in g m t b can.block) n count))
      (erased_sound (plain_card g m t) b can (open_sound (plain_card g m t) whole))

-- a chip of no blocks means the flash without blocks, whatever lies in memory and table
no_blocks : (m : List ℕ) (t : List Entry) → plain_card (record { blocks = 0; pages = 2; size = 4; endurance = 1 }) m t ≡ no_card
unfolding plain_card
no_blocks m t = refl

pub plain_none : (g : Geometry) (m : List ℕ) (t : List Entry) → g ≡ record { blocks = 0; pages = 2; size = 4; endurance = 1 } → PlainOf g m t no_card
plain_none g m t none = plain_of g m t no_card (rw none (omega arith)) (rw none (no_blocks m t)) no_card_sound

-- what it takes to make a chip
pub plain_fits : (g : Geometry) (n : ℕ) → plain_fault g n ≡ None → Limited g × (plain_length g ≤ n)
plain_fits g n e = (limited g (grind (arith, nat_tests)), grind (arith, nat_tests))

-- memory filled with 255 and an unused table are a blank chip
pub plain_blank :
    (g : Geometry) (m : List ℕ) → plain_length g ≤ length m → g.blocks ≤ 256 →
    plain_card g (put_mid 0 (plain_length g) m (replicate (plain_length g) 255)) (replicate 256 unused) ≡ blank_card g
unfolding plain_card
plain_blank g m room few =
    laid_blank g (plain_block g (put_mid 0 (plain_length g) m (replicate (plain_length g) 255)) (replicate 256 unused)) (λ b h.
    let e : get_or (replicate 256 unused) b unused ≡ unused = get_or-replicate 256 b unused unused (omega arith) in
    same_block _ _ _ _ _ _
    (counting_replicate (λ q. row g.size (b * g.pages + q) (put_mid 0 (plain_length g) m (replicate (plain_length g) 255))) g.pages (replicate g.size 255) (λ q i.
    part_filled m 0 (plain_length g) ((b * g.pages + q) * g.size) g.size 255 (omega arith) (omega arith) (let v = page_end g b q h i in omega arith)))
    (ap (λ (y : Entry). y.floor) e) (ap (λ (y : Entry). y.erases) e))

-- an entry that was made by default is that of a block that was never used
pub default_unused : (e : Entry) → e.floor ≡ 0 → e.erases ≡ 0 → e ≡ unused
default_unused e f k = λ i. record { floor = f i; erases = k i }

-- what a test of a plain chip's memory finds
pub plain_fitting : (g : Geometry) (n : ℕ) → fitting_fault 0 g n ≡ plain_fault g n
plain_fitting g n = ap (λ k. cond (within_limits g) (cond (nat_le k n) None (Some MemoryShort)) (Some OutOfLimits)) (all_rows g)

-- a making that fails gives the flash without blocks
pub fault_card : (f : MakingFault) (g : Geometry) (n : ℕ) → Some f ≡ plain_fault g n → no_card ≡ made_card (plain_fault g n) g
fault_card f g n e = rw (← e) refl

-- a making that does not fail
pub plain_new :
    (g : Geometry) (m m' : List ℕ) (l : ℕ) (t : List Entry) → t ≡ replicate 256 unused → plain_fault g (length m) ≡ None →
    l ≡ all_spans 0 g → m' ≡ put_mid 0 l m (replicate l 255) → PlainOf g m' t (made_card (plain_fault g (length m)) g)
plain_new g m m' l t table h all clear =
    let f = plain_fits g (length m) h in
    rw h
    (plain_of g m' t (blank_card g)
    (rw (clear, length_put m (replicate l 255) 0 l (omega (arith, all_rows g, f.1)) (length-replicate l 255)) f.1)
    (rw (table, clear, all, all_rows g) (plain_blank g m f.1 f.0.blocks_high))
    (blank_card_sound g f.0))
