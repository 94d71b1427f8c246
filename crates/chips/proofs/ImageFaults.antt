-- What the tests of an image find, and that an image without fault is a sound one.
use Rattle.std.proofs.Common.{◌≡◌, ℕ, zero, suc, ◌+◌, ◌-◌, ◌*◌, ◌<◌, ◌≤◌, Bool, true, false, cond, ◌&&◌, ◌==◌, List, [], ◌∷◌, map, length, take, drop, replicate, is_some, Some, None, Option, sym, refl, ap, ◌∙◌, arith}
use Rattle.std.specs.List.{range_with_len}
use Rattle.std.proofs.lemmas.List.{length-replicate, length-take-le, length-drop, drop-drop}
use Rattle.std.proofs.Math.Nat.{mul-sub}
use Rattle.std.proofs.Math.Seq.{take-add}
use Rattle.std.proofs.lemmas.List.Folds.{list_all-append}
use Rattle.std.proofs.lemmas.List.FromFn.{length-map-range_with_len}
use Rattle.std.proofs.lemmas.Bool.Decides.{nat_tests}
use Rattle.flash.specs.declared.geometry.Geometry.{Geometry}
use Rattle.flash.specs.declared.making.MakingFault.{MakingFault}
use Rattle.flash.specs.declared.making.MakingFault.TheVariants.{BadHeader, NotBlank}
use Rattle.flash.specs.Meaning.{blank_block, blank_card, no_card, geometry_of, Sound, SoundBlock}
use Rattle.flash.proofs.SoundLaws.{Limited, limited, sound_as, blank_card_sound, no_card_sound}
use Rattle.chips.specs.Image.{HeaderOf, floor_in, count_in, spare_in, block_length, image_length, start_of, header_at, page_start, image_page, image_block, image_card, all_blank, first_fault, room_fault, good_header, header_fault, page_fault, block_fault, image_fault, ImageOf, attached_card}
use Rattle.chips.proofs.Counting.{counting_at}
use Rattle.chips.proofs.FaultLaws.{blank_is, is_blank, none_is, after_none, first_some, both_none, none_both, each_none, none_each}
use Rattle.chips.proofs.ImageLaws.{image_count, image_geometry, image_here, block_end, page_end}

-- measures within their limits, and memory enough
pub room_good : (g : Geometry) (n : ℕ) → room_fault g n ≡ None → Limited g × (image_length g ≤ n)
room_good g n e = (limited g (grind (arith, nat_tests)), grind (arith, nat_tests))

good_room : (g : Geometry) (n : ℕ) → Limited g → image_length g ≤ n → room_fault g n ≡ None
good_room g n l h = grind (arith, nat_tests)

-- a header without fault
record GoodHeader (g : Geometry) (h : List ℕ) : Type 0 where
  floor : floor_in h ≤ g.pages
  count : count_in h ≤ g.endurance
  spare : spare_in h ≡ 0

header_good : (g : Geometry) (h : List ℕ) (b : ℕ) → header_fault g h b ≡ None → GoodHeader g h
header_good g h b e = record { floor = grind (arith, nat_tests); count = grind (arith, nat_tests); spare = grind (arith, nat_tests) }

-- all ghost fields of a chip
pub record Kept (g : Geometry) (m : List ℕ) : Type 0 where
  pub blocks_high : g.blocks ≤ 256
  pub pages_high : g.pages ≤ 64
  pub size_high : g.size ≤ 4096
  pub room : image_length g ≤ length m
  pub whole : is_some (image_fault g m) ≡ false

good_header_lem : (g : Geometry) (h : List ℕ) (b : ℕ) → GoodHeader g h → header_fault g h b ≡ None
good_header_lem g h b good = grind (arith, nat_tests)

-- a page without fault
module _ (g : Geometry) (m : List ℕ) (b p : ℕ) where
  page_length_lem : start_of g b + block_length g ≤ length m → p < g.pages → length (image_page g m b p) ≡ g.size
  page_length_lem fits h =
      length-take-le g.size (drop (page_start g b p) m) (rw (length-drop (page_start g b p) m) (omega (arith, page_end g b p h)))

  page_blank : start_of g b + block_length g ≤ length m → p < g.pages → page_fault g m b p ≡ None → image_page g m b p ≡ replicate g.size 255
  page_blank fits h e =
      let t : all_blank (image_page g m b p) ≡ true = grind (arith, nat_tests) in
      blank_is (image_page g m b p) t ∙ ap (λ n. replicate n 255) (page_length_lem fits h)

  blank_page_lem : image_page g m b p ≡ replicate g.size 255 → page_fault g m b p ≡ None
  blank_page_lem e = rw (e, is_blank g.size) refl

-- a block without fault
module _ (g : Geometry) (m : List ℕ) (b : ℕ) where
  block_header : block_fault g m b ≡ None → GoodHeader g (header_at g m b)
  unfolding block_fault
  block_header e = header_good g (header_at g m b) b (both_none (header_fault g (header_at g m b) b) _ e).0

  block_sound : start_of g b + block_length g ≤ length m → block_fault g m b ≡ None → SoundBlock (image_card g m).shape (image_block g m b)
  unfolding image_card block_fault
  block_sound fits e =
      let f : ℕ = floor_in (header_at g m b) in
      let good = block_header e in
      let pages = (both_none (header_fault g (header_at g m b) b) (map (page_fault g m b) (range_with_len f (g.pages - f))) e).1 in
      record {
        page_count = length-map-range_with_len (image_page g m b) 0 g.pages;
        page_sizes = λ p h. rw (counting_at (image_page g m b) g.pages p [] h) (page_length_lem g m b p fits h);
        floor_high = good.floor;
        erases_high = good.count;
        blank_above = λ p h low.
            counting_at (image_page g m b) g.pages p [] h
            ∙ page_blank g m b p fits h (each_none (page_fault g m b) f (g.pages - f) pages p low (omega arith));
      }

  sound_block : spare_in (header_at g m b) ≡ 0 → SoundBlock (image_card g m).shape (image_block g m b) → block_fault g m b ≡ None
  unfolding image_card block_fault
  sound_block e s =
      let f : ℕ = floor_in (header_at g m b) in
      none_both (header_fault g (header_at g m b) b) (map (page_fault g m b) (range_with_len f (g.pages - f)))
      (good_header_lem g (header_at g m b) b (record { floor = s.floor_high; count = s.erases_high; spare = e }))
      (none_each (page_fault g m b) f (g.pages - f) (λ p low high.
      let h : p < g.pages = omega (arith, s.floor_high) in
      blank_page_lem g m b p (sym (counting_at (image_page g m b) g.pages p [] h) ∙ s.blank_above p h low)))

-- what an image without fault has, and what makes one
pub record Whole (g : Geometry) (m : List ℕ) : Type 0 where
  pub room : image_length g ≤ length m
  pub sound : Sound (image_card g m)
  pub spare : (b : ℕ) → b < g.blocks → spare_in (header_at g m b) ≡ 0

module _ (g : Geometry) (m : List ℕ) where
  pub fault_whole : image_fault g m ≡ None → Whole g m
  unfolding image_card image_fault
  fault_whole e =
      let q = both_none (room_fault g (length m)) (map (block_fault g m) (range_with_len 0 g.blocks)) e in
      let r = room_good g (length m) q.0 in
      let good : (b : ℕ) → b < g.blocks → block_fault g m b ≡ None = λ b h. each_none (block_fault g m) 0 g.blocks q.1 b (omega arith) (omega arith) in
      let blocks = length-replicate g.blocks (blank_block (blank_card g).shape 0) in
      record {
        room = r.1;
        sound = sound_as (blank_card g) (image_card g m) refl (image_count g m ∙ sym blocks) (blank_card_sound g r.0) (λ b h.
            let l : b < g.blocks = rw blocks at h in
            rw (image_here g m b l) (block_sound g m b (block_end g m r.1 b l) (good b l)));
        spare = λ b h. (block_header g m b (good b h)).spare;
      }

  pub whole_fault : Whole g m → image_fault g m ≡ None
  unfolding image_card image_fault
  whole_fault w =
      let s = w.sound in
      let limits : Limited g =
      record {
        blocks_high = rw (image_count g m) at s.blocks_high;
        pages_low = s.pages_low;
        pages_high = s.pages_high;
        size_low = s.size_low;
        size_high = s.size_high;
        endurance_low = s.endurance_low;
        endurance_high = s.endurance_high;
      } in
      none_both (room_fault g (length m)) (map (block_fault g m) (range_with_len 0 g.blocks))
      (good_room g (length m) limits w.room)
      (none_each (block_fault g m) 0 g.blocks (λ b low high.
      let h : b < g.blocks = omega arith in
      sound_block g m b (w.spare b h) (rw (image_here g m b h) at (s.each b (rw (image_count g m) h)))))

  -- a chip keeps that its image is without fault as a test, in a ghost field
  pub chip_whole : is_some (image_fault g m) ≡ false → Whole g m
  chip_whole e = fault_whole (none_is (image_fault g m) e)

  -- and all that it keeps follows from it
  pub chip_keeps : image_fault g m ≡ None → Kept g m
  unfolding image_card
  chip_keeps e =
      let w = fault_whole e in
      record {
        blocks_high = rw (image_count g m) at w.sound.blocks_high;
        pages_high = w.sound.pages_high;
        size_high = w.sound.size_high;
        room = w.room;
        whole = ap is_some e;
      }

  -- its memory can be taken up again, and then shows the same card
  pub chip_again : (m' : List ℕ) → is_some (image_fault g m) ≡ false → m' ≡ m → ImageOf (geometry_of (image_card g m)) m' (image_card g m)
  chip_again m' e same =
      rw (same, ← image_geometry g m) (record { whole = none_is (image_fault g m) e; means = refl })

-- no blocks need no memory, and mean the flash without blocks
abbrev pub no_geometry : Geometry
no_geometry = record { blocks = 0; pages = 2; size = 4; endurance = 1 }

none_card : (m : List ℕ) → image_card no_geometry m ≡ no_card
unfolding image_card
none_card m = refl

pub none_whole : (m : List ℕ) → image_fault no_geometry m ≡ None
none_whole m =
    whole_fault no_geometry m
    (record { room = omega arith; sound = rw (none_card m) no_card_sound; spare = λ b h. absurd (omega arith) })

-- what is taken up
module _ (g : Geometry) (m : List ℕ) where
  pub attached_none : (fault : MakingFault) → Some fault ≡ image_fault g m → image_card no_geometry m ≡ attached_card (image_fault g m) g m
  attached_none fault e = rw (← e) (none_card m)

  pub attached_whole : None ≡ image_fault g m → image_card g m ≡ attached_card (image_fault g m) g m
  attached_whole e = rw (← e) refl

-- what a test of an image's room finds
module _ (g : Geometry) (m : List ℕ) where
  pub image_short : (fault : MakingFault) → Some fault ≡ room_fault g (length m) → Some fault ≡ image_fault g m
  unfolding image_fault
  image_short = first_some (room_fault g (length m)) (map (block_fault g m) (range_with_len 0 g.blocks))

  -- where there is room, the first fault is that of the blocks
  pub image_blocks : None ≡ room_fault g (length m) → first_fault (map (block_fault g m) (range_with_len 0 g.blocks)) ≡ image_fault g m
  unfolding image_fault
  image_blocks = after_none (room_fault g (length m)) (map (block_fault g m) (range_with_len 0 g.blocks))

-- a test of two parts finds what a test of the one and then tests of the other find
both_tested :
    (t u : Bool) (fault : MakingFault) (tests : List (Option MakingFault)) → cond u None (Some fault) ≡ first_fault tests →
    cond (t && u) None (Some fault) ≡ first_fault (cond t None (Some fault) ∷ tests)
both_tested true u fault tests e = e
both_tested false u fault tests e = refl

-- what a test of a block finds
module _ (g : Geometry) (m : List ℕ) (b : ℕ) where
  -- pages that lie side by side are tested at once
  pages_tested : (n f : ℕ) → cond (all_blank (take (n * g.size) (drop (page_start g b f) m))) None (Some (NotBlank (record { 0 = b }))) ≡ first_fault (map (page_fault g m b) (range_with_len f n))
  pages_tested zero f = rw (let e : 0 * g.size ≡ 0 = omega arith in e) refl
  pages_tested (suc n) f =
      let rest : List ℕ = drop (page_start g b f) m in
      let size : suc n * g.size ≡ g.size + n * g.size = omega arith in
      let next : page_start g b f + g.size ≡ page_start g b (f + 1) = omega arith in
      let after : drop g.size rest ≡ drop (page_start g b (f + 1)) m = drop-drop g.size (page_start g b f) m ∙ ap (λ a. drop a m) next in
      ap (λ k. cond (all_blank (take k rest)) None (Some (NotBlank (record { 0 = b })))) size
      ∙ rw (take-add g.size (n * g.size) rest, list_all-append (λ x. x == 255) (take g.size rest) (take (n * g.size) (drop g.size rest)), after)
      (both_tested (all_blank (take g.size rest)) _ (NotBlank (record { 0 = b })) _ (pages_tested n (f + 1)))

  module _ (f k s : ℕ) (header : HeaderOf (header_at g m b) f k s) where
    header_tested : (t : Bool) → t ≡ good_header g f k s → cond t None (Some (BadHeader (record { 0 = b }))) ≡ header_fault g (header_at g m b) b
    header_tested t e = rw (e, header.floor_is, header.erases_is, header.spare_is) refl

    pub block_bad : false ≡ good_header g f k s → Some (BadHeader (record { 0 = b })) ≡ block_fault g m b
    unfolding block_fault
    block_bad e = first_some (header_fault g (header_at g m b) b) _ (BadHeader (record { 0 = b })) (header_tested false e)

    -- where the header is good, the pages from the floor on decide
    pub block_pages :
        (t : Bool) (a z : ℕ) → true ≡ good_header g f k s → a ≡ page_start g b f → z ≡ page_start g b g.pages →
        t ≡ all_blank (take (z - a) (drop a m)) → cond t None (Some (NotBlank (record { 0 = b }))) ≡ block_fault g m b
    unfolding block_fault
    block_pages t a z good start end test =
        let size : z - a ≡ (g.pages - f) * g.size = omega (arith, mul-sub g.size g.pages f) in
        rw (test, size, start)
        (pages_tested (g.pages - f) f ∙ ap (λ n. first_fault (map (page_fault g m b) (range_with_len n (g.pages - n)))) header.floor_is
        ∙ after_none (header_fault g (header_at g m b) b) _ (header_tested true good))
