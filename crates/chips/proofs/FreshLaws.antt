-- A memory that was made blank is the image of a flash that was never used.
use Rattle.std.proofs.Common.{◌≡◌, ℕ, zero, suc, ◌+◌, ◌-◌, ◌*◌, ◌<◌, ◌≤◌, List, ◌++◌, length, take, drop, replicate, None, sym, refl, ap, ◌∙◌, add-mul, one-mul, arith}
use borrow.Rule.Slice.PartMut.{put_mid}
use Rattle.std.proofs.lemmas.List.{append-nil, append_assoc, length-append, length-replicate, length-take-le, length-drop, drop_at, drop-drop, drop-append-le, take-append-le, drop-replicate, take-replicate}
use Rattle.flash.specs.declared.geometry.Geometry.{Geometry}
use Rattle.flash.specs.Meaning.{blank_card}
use Rattle.flash.proofs.SoundLaws.{Limited, blank_card_sound}
use Rattle.chips.specs.Image.{header_length, floor_in, count_in, spare_in, block_length, image_length, start_of, header_at, page_start, image_page, image_block, image_card, room_fault, ImageOf, blank_pages, fresh_block, repeated, blank_image}
use Rattle.chips.specs.Layout.{pages_length}
use Rattle.chips.proofs.Cards.{same_block, laid_blank}
use Rattle.chips.proofs.Counting.{counting_replicate}
use Rattle.chips.proofs.ImageFaults.{whole_fault, room_good}
use Rattle.chips.proofs.Rows.{rows_apart, length_put, put_after, put_put}

-- a row more
next_row : (l k : ℕ) → (k + 1) * l ≡ l + k * l
next_row l k = omega (arith, add-mul k 1 l, one-mul l)

module _ (y : List ℕ) where
  repeated_length : (n : ℕ) → length (repeated n y) ≡ n * length y
  repeated_length zero = omega arith
  repeated_length (suc n) = omega (arith, length-append y (repeated n y), repeated_length n, next_row (length y) n)

  repeated_more : (n : ℕ) → repeated n y ++ y ≡ repeated (n + 1) y
  repeated_more zero = sym (append-nil y)
  repeated_more (suc n) =
      append_assoc y (repeated n y) y ∙ ap (λ (z : List ℕ). y ++ z) (repeated_more n)
      ∙ ap (λ k. repeated k y) (let e : suc (n + 1) ≡ suc n + 1 = omega arith in e)

  -- a part of one of the copies
  repeated_part :
      (rest : List ℕ) (l o s : ℕ) → length y ≡ l → o + s ≤ l → (n b : ℕ) → b < n →
      take s (drop (b * l + o) (repeated n y ++ rest)) ≡ take s (drop o y)
  repeated_part rest l o s e h zero b i = absurd (omega arith)
  repeated_part rest l o s e h (suc n) zero i =
      let z : 0 * l + o ≡ o = omega arith in
      ap (λ k. take s (drop k (repeated (suc n) y ++ rest))) z
      ∙ ap (λ (x : List ℕ). take s (drop o x)) (append_assoc y (repeated n y) rest)
      ∙ ap (take s) (drop-append-le o y (repeated n y ++ rest) (omega arith))
      ∙ take-append-le s (drop o y) (repeated n y ++ rest) (rw (length-drop o y) (omega arith))
  repeated_part rest l o s e h (suc n) (suc b) i =
      let z : suc b * l + o ≡ l + (b * l + o) = omega (arith, next_row l b) in
      ap (λ k. take s (drop k (repeated (suc n) y ++ rest))) z
      ∙ ap (λ (x : List ℕ). take s (drop (l + (b * l + o)) x)) (append_assoc y (repeated n y) rest)
      ∙ ap (take s) (sym (drop-drop (b * l + o) l (y ++ (repeated n y ++ rest))))
      ∙ ap (λ (x : List ℕ). take s (drop (b * l + o) x)) (drop_at y (repeated n y ++ rest) l e)
      ∙ repeated_part rest l o s e h n b (omega arith)

module _ (g : Geometry) where
  fresh_length : length (fresh_block g) ≡ block_length g
  fresh_length = omega (arith, length-replicate {A = ℕ} (pages_length g) 255)

  -- the header and then the pages of a block are filled
  module _
      (m z p : List ℕ) (b o a e : ℕ) (fits : start_of g b + block_length g ≤ length m)
      (start : o ≡ start_of g b) (at : a ≡ page_start g b 0) (end : e ≡ a + pages_length g)
      (zeros : z ≡ replicate (length (take (a - o) (drop o m))) 0)
      (blanks : p ≡ replicate (length (take (e - a) (drop a (put_mid o (a - o) m z)))) 255) where
    head : a - o ≡ header_length
    head = omega arith

    tail : e - a ≡ pages_length g
    tail = omega arith

    header_zeros : z ≡ replicate header_length 0
    header_zeros =
        zeros ∙ ap (λ n. replicate n 0) (length-take-le (a - o) (drop o m) (rw (length-drop o m) (omega arith)) ∙ head)

    pages_blank : p ≡ blank_pages g
    pages_blank =
        let same : length (put_mid o (a - o) m z) ≡ length m = length_put m z o (a - o) (omega arith) (ap length header_zeros ∙ sym head) in
        blanks
        ∙ ap (λ n. replicate n 255) (length-take-le (e - a) (drop a (put_mid o (a - o) m z)) (rw (length-drop a (put_mid o (a - o) m z), same) (omega arith)) ∙ tail)

    pub fresh_block_lem : put_mid a (e - a) (put_mid o (a - o) m z) p ≡ put_mid (start_of g b) (block_length g) m (fresh_block g)
    fresh_block_lem =
        let next : a ≡ o + header_length = omega arith in
        let f : o ≤ length m = omega arith in
        rw (head, tail, header_zeros, pages_blank, next) (put_put m (replicate header_length 0) (blank_pages g) o header_length (pages_length g) f refl)
        ∙ ap (λ k. put_mid k (block_length g) m (fresh_block g)) start

  -- one block more is written
  pub fresh_more :
      (m m₁ m₂ : List ℕ) (k : ℕ) →
      m₁ ≡ repeated k (fresh_block g) ++ drop (k * block_length g) m → m₂ ≡ put_mid (start_of g k) (block_length g) m₁ (fresh_block g) →
      m₂ ≡ repeated (k + 1) (fresh_block g) ++ drop ((k + 1) * block_length g) m
  fresh_more m m₁ m₂ k old new =
      let front : length (repeated k (fresh_block g)) ≡ start_of g k = repeated_length (fresh_block g) k ∙ ap (λ l. k * l) fresh_length in
      let next : k * block_length g + block_length g ≡ (k + 1) * block_length g = omega (arith, next_row (block_length g) k) in
      new ∙ ap (λ (x : List ℕ). put_mid (start_of g k) (block_length g) x (fresh_block g)) old
      ∙ put_after (repeated k (fresh_block g)) (drop (k * block_length g) m) (fresh_block g) (start_of g k) (block_length g) front
      ∙ rw (repeated_more (fresh_block g) k, drop-drop (block_length g) (k * block_length g) m, next) refl

module _ (g : Geometry) (m : List ℕ) where
  module _ (b : ℕ) (h : b < g.blocks) where
    fresh_part : (o s : ℕ) → o + s ≤ block_length g → take s (drop (start_of g b + o) (blank_image g m)) ≡ take s (drop o (fresh_block g))
    fresh_part o s i = repeated_part (fresh_block g) (drop (image_length g) m) (block_length g) o s (fresh_length g) i g.blocks b h

    fresh_header : header_at g (blank_image g m) b ≡ replicate header_length 0
    fresh_header =
        ap (λ k. take header_length (drop k (blank_image g m))) (let e : start_of g b ≡ start_of g b + 0 = omega arith in e)
        ∙ fresh_part 0 header_length (omega arith)

    fresh_page : (p : ℕ) → p < g.pages → image_page g (blank_image g m) b p ≡ replicate g.size 255
    fresh_page p i =
        let r = rows_apart g.size p g.pages i in
        ap (λ k. take g.size (drop k (blank_image g m))) (let e : page_start g b p ≡ start_of g b + (header_length + p * g.size) = omega arith in e)
        ∙ fresh_part (header_length + p * g.size) g.size (omega arith)
        ∙ ap (take g.size) (sym (drop-drop (p * g.size) header_length (fresh_block g)) ∙ drop-replicate (p * g.size) (pages_length g) 255)
        ∙ take-replicate g.size (pages_length g - p * g.size) 255 (omega arith)

  blank_card_lem : image_card g (blank_image g m) ≡ blank_card g
  unfolding image_card
  blank_card_lem =
      laid_blank g (image_block g (blank_image g m)) (λ b h.
      same_block _ _ _ _ _ _
      (counting_replicate (image_page g (blank_image g m) b) g.pages (replicate g.size 255) (fresh_page b h))
      (ap floor_in (fresh_header b h)) (ap count_in (fresh_header b h)))

  -- and all of them
  pub fresh_all : (m' : List ℕ) (k : ℕ) → k ≡ g.blocks → m' ≡ repeated k (fresh_block g) ++ drop (k * block_length g) m → m' ≡ blank_image g m
  fresh_all m' k e old = old ∙ ap (λ n. repeated n (fresh_block g) ++ drop (n * block_length g) m) e

  fresh_image : Limited g → image_length g ≤ length m → ImageOf g (blank_image g m) (blank_card g)
  fresh_image limits room =
      record {
        whole = whole_fault g (blank_image g m) (record {
          room = rw (length-append (repeated g.blocks (fresh_block g)) (drop (image_length g) m), repeated_length (fresh_block g) g.blocks, fresh_length g) (omega arith);
          sound = rw blank_card_lem (blank_card_sound g limits);
          spare = λ b h. ap spare_in (fresh_header b h);
        });
        means = blank_card_lem;
      }

  pub blank_image_lem : (m' : List ℕ) → None ≡ room_fault g (length m) → m' ≡ blank_image g m → ImageOf g m' (blank_card g)
  blank_image_lem m' e is = let r = room_good g (length m) (sym e) in rw is (fresh_image r.0 r.1)
