-- The writes of a program and of an erase: what the image means after them, and that it stays without fault.
use Rattle.std.proofs.Common.{◌≡◌, ℕ, ◌+◌, ◌*◌, ◌^◌, ◌<◌, ◌≤◌, List, map, length, set, replicate, sym, refl, ap, ◌∙◌, inl, inr, ⊎_elim, arith}
use borrow.Rule.Slice.PartMut.{put_mid}
use Rattle.std.specs.List.{range_with_len}
use Rattle.std.proofs.lemmas.List.{length-replicate}
use Rattle.flash.specs.declared.geometry.Geometry.{Geometry}
use Rattle.flash.specs.Meaning.{Card, Block, erase_count_at, with_block, programmed, erased, Sound}
use Rattle.flash.proofs.RefusalLaws.{CanProgram, CanErase}
use Rattle.flash.proofs.SoundLaws.{programmed_sound, erased_sound}
use Rattle.chips.specs.Image.{header_length, header_bytes, floor_in, count_in, spare_in, image_length, start_of, page_start, image_page, image_card, ImageOf, blank_pages}
use Rattle.chips.specs.Layout.{pages_length}
use Rattle.chips.proofs.Cards.{same_block}
use Rattle.chips.proofs.Counting.{counting_replicate, counting_set}
use Rattle.chips.proofs.HeaderLaws.{header_floor, header_count, header_spare}
use Rattle.chips.proofs.ImageFaults.{Whole, whole_fault}
use Rattle.chips.proofs.ImageLaws.{image_count, image_here, image_in, block_end, page_end, page_fits, erase_fits, Rewrite, rewrite_length, rewrite_card, rewrite_spare}
use Rattle.chips.proofs.Rows.{rows_apart, rows_order, length_put, part_at, part_outside, part_filled}

-- the image stays without fault where the card stays sound and the header's spare bits are zero
rewrite_image :
    (g : Geometry) (m m' : List ℕ) (b q l : ℕ) (x h : List ℕ) → Rewrite g m m' b q l x h →
    (c : Card) → Whole g m → spare_in h ≡ 0 → image_card g m' ≡ c → Sound c → ImageOf g m' c
rewrite_image g m m' b q l x h w c whole e f s =
    record {
      whole = whole_fault g m' (record {
        room = rw (rewrite_length g m m' b q l x h w) whole.room;
        sound = rw f s;
        spare = rewrite_spare g m m' b q l x h w e whole.spare;
      });
      means = f;
    }

-- a header fits at the start of its block, once a part of the memory was written
header_fits :
    (g : Geometry) (m m₁ : List ℕ) (b q l o f k : ℕ) (x h : List ℕ) →
    image_length g ≤ length m → b < g.blocks → q + l ≤ length m → length x ≡ l → o ≡ start_of g b → h ≡ header_bytes f k → m₁ ≡ put_mid q l m x →
    o + length h ≤ length m₁
header_fits g m m₁ b q l o f k x h room there fits len start head first =
    let n : length h ≡ header_length = ap length head in
    let e : length m₁ ≡ length m = ap length first ∙ length_put m x q l fits len in
    omega (arith, block_end g m room b there)

-- the count of a block can rise by one within its bits
module _ (g : Geometry) (m : List ℕ) (whole : Whole g m) (b : ℕ) where
  count_small : b < g.blocks → erase_count_at (image_card g m) b + 1 < 2 ^ 20
  count_small h = omega (arith, (whole.sound.each b (rw (image_count g m) h)).erases_high, whole.sound.endurance_high)

  pub program_small : (p n k : ℕ) → CanProgram (image_card g m) b p n → k ≡ erase_count_at (image_card g m) b → (p + 1 < 2 ^ 7) × (k < 2 ^ 20)
  program_small p n k can e =
      (omega (arith, can.page, whole.sound.pages_high), omega (arith, count_small (image_in g m b can.block)))

  pub erase_small : (k : ℕ) → CanErase (image_card g m) b → k ≡ erase_count_at (image_card g m) b → k + 1 < 2 ^ 20
  erase_small k can e = omega (arith, count_small (image_in g m b can.block))

-- a program writes the page, and then the header with the floor above it
module _ (g : Geometry) (m m₁ : List ℕ) (b p a o k : ℕ) (x h : List ℕ) (can : CanProgram (image_card g m) b p (length x))
    (at : a ≡ page_start g b p) (start : o ≡ start_of g b) (count : k ≡ erase_count_at (image_card g m) b) (head : h ≡ header_bytes (p + 1) k)
    (first : m₁ ≡ put_mid a (length x) m x) where
  module _ (m₂ : List ℕ) (second : m₂ ≡ put_mid o (length h) m₁ h) (whole : Whole g m) where
    program_rewrite : Rewrite g m m₂ b (page_start g b p) g.size x h
    unfolding image_card
    program_rewrite =
        let l : length h ≡ header_length = ap length head in
        record {
          room = whole.room;
          there = image_in g m b can.block;
          part = can.bytes;
          head = l;
          from = omega arith;
          to = page_end g b p can.page;
          is = rw (second, first, l, start, at, can.bytes) refl;
        }

    program_pages :
        map (image_page g (put_mid (page_start g b p) g.size m x) b) (range_with_len 0 g.pages)
        ≡ set (map (image_page g m b) (range_with_len 0 g.pages)) p x
    unfolding image_card
    program_pages =
        let fits : page_start g b p + g.size ≤ length m = page_fits g m whole.room b p g.size (page_start g b p) (image_in g m b can.block) can.page refl refl in
        counting_set (image_page g m b) (image_page g (put_mid (page_start g b p) g.size m x) b) g.pages p x can.page
        (part_at m x (page_start g b p) g.size fits can.bytes)
        (λ r i ne.
        part_outside m x (page_start g b p) g.size fits can.bytes (page_start g b r) g.size
        (⊎_elim
        (λ (t : r * g.size + g.size ≤ p * g.size). inl (omega arith))
        (λ (t : p * g.size + g.size ≤ r * g.size). inr (omega arith))
        (rows_order g.size r p ne)))

    program_card : image_card g m₂ ≡ programmed (image_card g m) b p x
    unfolding programmed
    program_card =
        let old = image_here g m b (image_in g m b can.block) in
        let s = program_small g m whole b p (length x) k can count in
        rewrite_card g m m₂ b (page_start g b p) g.size x h program_rewrite (set (map (image_page g m b) (range_with_len 0 g.pages)) p x) program_pages
        ∙ ap (with_block (image_card g m) b)
        (same_block _ _ _ _ _ _
        (ap (λ (y : Block). set y.pages p x) (sym old))
        (ap floor_in head ∙ header_floor (p + 1) k s.0 s.1)
        (ap count_in head ∙ header_count (p + 1) k s.0 s.1 ∙ count))

    pub program_image : ImageOf g m₂ (programmed (image_card g m) b p x)
    program_image =
        let s = program_small g m whole b p (length x) k can count in
        rewrite_image g m m₂ b (page_start g b p) g.size x h program_rewrite (programmed (image_card g m) b p x) whole
        (ap spare_in head ∙ header_spare (p + 1) k s.0 s.1)
        program_card (programmed_sound (image_card g m) b p x can whole.sound)

-- an erase clears the pages, and then writes the header with a count that is one higher
module _ (g : Geometry) (m m₁ : List ℕ) (b a l o k : ℕ) (h : List ℕ) (can : CanErase (image_card g m) b)
    (at : a ≡ page_start g b 0) (all : l ≡ pages_length g) (start : o ≡ start_of g b) (count : k ≡ erase_count_at (image_card g m) b) (head : h ≡ header_bytes 0 (k + 1))
    (fill : m₁ ≡ put_mid a l m (replicate l 255)) where
  first : m₁ ≡ put_mid a (pages_length g) m (blank_pages g)
  first = fill ∙ ap (λ n. put_mid a n m (replicate n 255)) all

  pub erase_header_fits : image_length g ≤ length m → o + length h ≤ length m₁
  erase_header_fits room =
      header_fits g m m₁ b a (pages_length g) o 0 (k + 1) (blank_pages g) h room (image_in g m b can.block) (erase_fits g m room b a (pages_length g) can at refl) (length-replicate (pages_length g) 255) start head first

  module _ (m₂ : List ℕ) (second : m₂ ≡ put_mid o (length h) m₁ h) (whole : Whole g m) where
    erase_rewrite : Rewrite g m m₂ b (page_start g b 0) (pages_length g) (blank_pages g) h
    erase_rewrite =
        let l : length h ≡ header_length = ap length head in
        record {
          room = whole.room;
          there = image_in g m b can.block;
          part = length-replicate (pages_length g) 255;
          head = l;
          from = omega arith;
          to = omega arith;
          is = rw (second, first, l, start, at) refl;
        }

    erase_pages :
        map (image_page g (put_mid (page_start g b 0) (pages_length g) m (blank_pages g)) b) (range_with_len 0 g.pages)
        ≡ replicate g.pages (replicate g.size 255)
    erase_pages =
        counting_replicate (image_page g (put_mid (page_start g b 0) (pages_length g) m (blank_pages g)) b) g.pages (replicate g.size 255) (λ r i.
        part_filled m (page_start g b 0) (pages_length g) (page_start g b r) g.size 255
        (erase_fits g m whole.room b (page_start g b 0) (pages_length g) can refl refl) (omega arith) (omega (arith, rows_apart g.size r g.pages i)))

    erase_card : image_card g m₂ ≡ erased (image_card g m) b
    unfolding image_card erased
    erase_card =
        let few = erase_small g m whole b k can count in
        rewrite_card g m m₂ b (page_start g b 0) (pages_length g) (blank_pages g) h erase_rewrite (replicate g.pages (replicate g.size 255)) erase_pages
        ∙ ap (with_block (image_card g m) b)
        (same_block _ _ _ _ _ _ refl
        (ap floor_in head ∙ header_floor 0 (k + 1) (omega arith) few)
        (ap count_in head ∙ header_count 0 (k + 1) (omega arith) few ∙ ap (λ n. n + 1) count))

    pub erase_image : ImageOf g m₂ (erased (image_card g m) b)
    erase_image =
        rewrite_image g m m₂ b (page_start g b 0) (pages_length g) (blank_pages g) h erase_rewrite (erased (image_card g m) b) whole
        (ap spare_in head ∙ header_spare 0 (k + 1) (omega arith) (erase_small g m whole b k can count))
        erase_card (erased_sound (image_card g m) b can whole.sound)
