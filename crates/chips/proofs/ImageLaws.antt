-- What an image means: its card, where its parts lie, and what a write to one block leaves of it.
use Rattle.std.proofs.Common.{◌≡◌, ℕ, ◌+◌, ◌<◌, ◌≤◌, ◌≢◌, ◌⊎◌, List, [], map, length, get_or, take, drop, ap, ◌∙◌, inl, inr, ⊎_elim, arith}
use borrow.Rule.Slice.PartMut.{put_mid}
use Rattle.std.specs.List.{range_with_len}
use Rattle.std.proofs.lemmas.Bool.{cases_eq}
use Rattle.flash.specs.declared.geometry.Geometry.{Geometry}
use Rattle.flash.specs.Meaning.{Block, absent, block_at, block_count, page_at, geometry_of, with_block}
use Rattle.flash.proofs.RefusalLaws.{CanProgram, CanErase}
use Rattle.chips.specs.Image.{header_length, floor_in, count_in, spare_in, block_length, image_length, start_of, header_at, page_start, image_page, image_block, image_card}
use Rattle.chips.specs.Layout.{pages_length}
use Rattle.chips.proofs.Cards.{same_block, laid_count, laid_geometry, laid_here, laid_absent, laid_with}
use Rattle.chips.proofs.Counting.{counting_at, counting_same}
use Rattle.chips.proofs.Rows.{rows_apart, rows_order, length_put, part_at, part_after, part_outside}

module _ (g : Geometry) (m : List ℕ) where
  pub image_count : block_count (image_card g m) ≡ g.blocks
  unfolding image_card
  image_count = laid_count g (image_block g m)

  pub image_geometry : g ≡ geometry_of (image_card g m)
  unfolding image_card
  image_geometry = laid_geometry g (image_block g m)

  pub image_here : (b : ℕ) → b < g.blocks → block_at (image_card g m) b ≡ image_block g m b
  unfolding image_card
  image_here = laid_here g (image_block g m)

  pub image_absent : (b : ℕ) → g.blocks ≤ b → block_at (image_card g m) b ≡ absent
  unfolding image_card
  image_absent = laid_absent g (image_block g m)

  pub image_in : (b : ℕ) → b < block_count (image_card g m) → b < g.blocks
  image_in b h = rw image_count at h

  pub image_page_lem : (b p : ℕ) → b < g.blocks → p < g.pages → page_at (image_card g m) b p ≡ image_page g m b p
  image_page_lem b p h k =
      ap (λ (y : Block). get_or y.pages p []) (image_here b h) ∙ counting_at (image_page g m b) g.pages p [] k

-- a page lies within its block
pub page_end : (g : Geometry) (b p : ℕ) → p < g.pages → page_start g b p + g.size ≤ start_of g b + block_length g
page_end g b p h = omega (arith, rows_apart g.size p g.pages h)

module _ (g : Geometry) (m : List ℕ) (room : image_length g ≤ length m) (b : ℕ) where
  -- a block lies within the memory
  pub block_end : b < g.blocks → start_of g b + block_length g ≤ length m
  block_end h = omega (arith, rows_apart (block_length g) b g.blocks h)

  -- and so does what a call reads or writes
  pub page_fits : (p n a : ℕ) → b < g.blocks → p < g.pages → n ≡ g.size → a ≡ page_start g b p → a + n ≤ length m
  page_fits p n a there h e at = omega (arith, block_end there, page_end g b p h)

  pub program_fits : (p n a : ℕ) → CanProgram (image_card g m) b p n → a ≡ page_start g b p → a + n ≤ length m
  unfolding image_card
  program_fits p n a can at = page_fits p n a (image_in g m b can.block) can.page can.bytes at

  pub erase_fits : (a l : ℕ) → CanErase (image_card g m) b → a ≡ page_start g b 0 → l ≡ pages_length g → a + l ≤ length m
  erase_fits a l can at all = omega (arith, block_end (image_in g m b can.block))

-- two writes to one block: to l bytes of its pages from q on, and then to its header
pub record Rewrite (g : Geometry) (m m' : List ℕ) (b q l : ℕ) (x h : List ℕ) : Type 0 where
  pub room : image_length g ≤ length m
  pub there : b < g.blocks
  pub part : length x ≡ l
  pub head : length h ≡ header_length
  pub from : start_of g b + header_length ≤ q
  pub to : q + l ≤ start_of g b + block_length g
  pub is : m' ≡ put_mid (start_of g b) header_length (put_mid q l m x) h

module _ (g : Geometry) (m m' : List ℕ) (b q l : ℕ) (x h : List ℕ) (w : Rewrite g m m' b q l x h) where
  part_fits : q + l ≤ length m
  part_fits = omega (arith, block_end g m w.room b w.there)

  head_fits : start_of g b + header_length ≤ length (put_mid q l m x)
  head_fits = rw (length_put m x q l part_fits w.part) (omega (arith, block_end g m w.room b w.there))

  pub rewrite_length : length m' ≡ length m
  rewrite_length =
      ap length w.is ∙ length_put (put_mid q l m x) h (start_of g b) header_length head_fits w.head
      ∙ length_put m x q l part_fits w.part

  -- a part that lies outside of both writes
  outside :
      (a s : ℕ) → (a + s ≤ q) ⊎ (q + l ≤ a) → (a + s ≤ start_of g b) ⊎ (start_of g b + header_length ≤ a) →
      take s (drop a m') ≡ take s (drop a m)
  outside a s u v =
      ap (λ (y : List ℕ). take s (drop a y)) w.is
      ∙ part_outside (put_mid q l m x) h (start_of g b) header_length head_fits w.head a s v
      ∙ part_outside m x q l part_fits w.part a s u

  -- a part of another block
  elsewhere :
      (k a s : ℕ) → k ≢ b → start_of g k ≤ a → a + s ≤ start_of g k + block_length g → take s (drop a m') ≡ take s (drop a m)
  elsewhere k a s ne u v =
      ⊎_elim
      (λ (t : start_of g k + block_length g ≤ start_of g b). outside a s (inl (omega arith)) (inl (omega arith)))
      (λ (t : start_of g b + block_length g ≤ start_of g k). outside a s (inr (omega arith)) (inr (omega arith)))
      (rows_order (block_length g) k b ne)

  header_here : header_at g m' b ≡ h
  header_here =
      ap (λ (y : List ℕ). header_at g y b) w.is ∙ part_at (put_mid q l m x) h (start_of g b) header_length head_fits w.head

  header_elsewhere : (k : ℕ) → k ≢ b → header_at g m' k ≡ header_at g m k
  header_elsewhere k ne = elsewhere k (start_of g k) header_length ne (omega arith) (omega arith)

  -- the pages of the block are as after the first write
  page_here : (p : ℕ) → image_page g m' b p ≡ image_page g (put_mid q l m x) b p
  page_here p =
      ap (λ (y : List ℕ). image_page g y b p) w.is
      ∙ part_after (put_mid q l m x) h (start_of g b) header_length head_fits w.head (page_start g b p) g.size (omega arith)

  page_elsewhere : (k p : ℕ) → k ≢ b → p < g.pages → image_page g m' k p ≡ image_page g m k p
  page_elsewhere k p ne i = elsewhere k (page_start g k p) g.size ne (omega arith) (page_end g k p i)

  -- the card has one block that is another
  pub rewrite_card :
      (ps : List (List ℕ)) → map (image_page g (put_mid q l m x) b) (range_with_len 0 g.pages) ≡ ps →
      image_card g m' ≡ with_block (image_card g m) b (record { pages = ps; floor = floor_in h; erases = count_in h })
  unfolding image_card
  rewrite_card ps e =
      laid_with g (image_block g m) (image_block g m') b (record { pages = ps; floor = floor_in h; erases = count_in h }) w.there
      (same_block _ _ _ _ _ _
      (counting_same (image_page g m' b) (image_page g (put_mid q l m x) b) g.pages (λ p i. page_here p) ∙ e)
      (ap floor_in header_here) (ap count_in header_here))
      (λ k i ne.
      same_block _ _ _ _ _ _
      (counting_same (image_page g m' k) (image_page g m k) g.pages (λ p j. page_elsewhere k p ne j))
      (ap floor_in (header_elsewhere k ne)) (ap count_in (header_elsewhere k ne)))

  -- and zero spare bits stay zero
  pub rewrite_spare :
      spare_in h ≡ 0 → ((k : ℕ) → k < g.blocks → spare_in (header_at g m k) ≡ 0) → (k : ℕ) → k < g.blocks → spare_in (header_at g m' k) ≡ 0
  rewrite_spare e old k i =
      ⊎_elim
      (λ (t : k ≡ b). ap (λ j. spare_in (header_at g m' j)) t ∙ ap spare_in header_here ∙ e)
      (λ (ne : k ≢ b). ap spare_in (header_elsewhere k ne) ∙ old k i)
      (cases_eq k b)
