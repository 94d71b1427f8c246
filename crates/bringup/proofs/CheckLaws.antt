-- A pattern that is programmed reads back, and each step of the check leaves a flash on which the next can be made.
use Rattle.std.proofs.Common.{◌≡◌, ℕ, zero, suc, ◌+◌, ◌<◌, ◌≤◌, List, ◌++◌, length, take, None, sym, refl, ap, ◌∙◌, add-one, arith}
use Rattle.std.proofs.Math.Seq.{take-length}
use Rattle.std.proofs.lemmas.List.{length-take-le, take-append-le}
use Rattle.std.proofs.lemmas.List.FromFn.{length-map-range_with_len}
use Rattle.flash.specs.Meaning.{Card, block_at, block_count, page_at, floor_at, programmed, erased, Sound}
use Rattle.flash.specs.Refusals.{read_refusal, erase_refusal}
use Rattle.flash.proofs.CardLaws.{programmed_shape, programmed_count, programmed_page, programmed_floor, erased_shape, erased_count, erased_floor}
use Rattle.flash.proofs.RefusalLaws.{CanProgram, can_erase, read_accepted}
use Rattle.flash.proofs.SoundLaws.{programmed_sound}
use Rattle.bringup.specs.Pattern.{pattern, pattern_byte}
use Rattle.bringup.specs.declared.report.BlockOutcome.{BlockOutcome}
use Rattle.bringup.specs.declared.report.BlockOutcome.TheVariants.{ErasedFirst}
use Rattle.bringup.specs.Checked.{patterned, checked_as}

pub pattern_length : (b p n : ℕ) → length (pattern b p n) ≡ n
unfolding pattern
pattern_length b p n = length-map-range_with_len (pattern_byte b p) 0 n

-- what stands at the head of a buffer
pub head_is : (size n : ℕ) (page rest x : List ℕ) → page ≡ x → length x ≡ n → size ≡ n → take size (page ++ rest) ≡ x
head_is size n page rest x is long whole =
    let fits : length page ≡ size = ap length is ∙ long ∙ sym whole in
    take-append-le size page rest (omega arith) ∙ ap (λ k. take k page) (sym fits) ∙ take-length page ∙ is

-- a page was programmed from the head of a buffer: it reads back into the head of another
pub record PageDone (c d : Card) (b p size : ℕ) (page rest : List ℕ) : Type 0 where
  pub written : take size (page ++ rest) ≡ pattern b p c.shape.size
  pub reads : (buffer : List ℕ) → length buffer ≡ 4096 → read_refusal d b p (length (take size buffer)) ≡ None
  pub found : (back : List ℕ) (behind : List ℕ) → back ≡ page_at d b p → take size (back ++ behind) ≡ pattern b p c.shape.size

pub page_done :
    (c d : Card) (b p size : ℕ) (buffer page rest : List ℕ) → Sound c → CanProgram c b p c.shape.size → size ≡ c.shape.size →
    length buffer ≡ 4096 → page ≡ pattern b p (length (take size buffer)) → d ≡ programmed c b p (take size (page ++ rest)) →
    PageDone c d b p size page rest
page_done c d b p size buffer page rest s can is long filled done =
    let x = pattern b p c.shape.size in
    let l = pattern_length b p c.shape.size in
    let head : (y : List ℕ) → length y ≡ 4096 → length (take size y) ≡ c.shape.size = λ y h. length-take-le size y (omega (arith, s.size_high)) ∙ is in
    let written = head_is size c.shape.size page rest x (filled ∙ ap (pattern b p) (head buffer long)) l is in
    let e : d ≡ programmed c b p x = done ∙ ap (programmed c b p) written in
    let k : p < length (block_at c b).pages = omega (arith, (s.each b can.block).page_count, can.page) in
    let there : page_at d b p ≡ x = rw e (programmed_page c b p x can.block k) in
    record {
      written = written;
      reads = λ y h.
          rw e (read_accepted (programmed c b p x) b p (length (take size y))
          (record { block = rw (programmed_count c b p x) can.block; page = rw (programmed_shape c b p x) can.page; bytes = rw (programmed_shape c b p x) (head y h) }));
      found = λ back behind h. head_is size c.shape.size back behind x (h ∙ there) l is;
    }

-- a block that was blank, with the pattern in its pages below n
pub record Patterning (c : Card) (b n : ℕ) (d : Card) : Type 0 where
  pub shape : d.shape ≡ c.shape
  pub count : block_count d ≡ block_count c
  pub sound : Sound d
  pub floor : floor_at d b ≤ n

-- what page n of the block needs on the way
pub record NextPage (c d : Card) (b n : ℕ) : Type 0 where
  pub shape : d.shape ≡ c.shape
  pub sound : Sound d
  pub inside : b < block_count d
  pub page_inside : n < d.shape.pages
  pub above : floor_at d b ≤ n

module _ (c : Card) (b : ℕ) (s : Sound c) (h : b < block_count c) (z : floor_at c b ≡ 0) where
  pub patterning : (n : ℕ) → n ≤ c.shape.pages → Patterning c b n (patterned c b n)
  unfolding patterned
  patterning zero l = record { shape = refl; count = refl; sound = s; floor = omega arith }
  patterning (suc n) l =
      let p = patterning n (omega arith) in
      let d : Card = patterned c b n in
      let x : List ℕ = pattern b n c.shape.size in
      let here : b < block_count d = rw p.count h in
      let can : CanProgram d b n (length x) = record { block = here; page = rw p.shape (omega arith); bytes = rw p.shape (pattern_length b n c.shape.size); above = p.floor } in
      record {
        shape = programmed_shape d b n x ∙ p.shape;
        count = programmed_count d b n x ∙ p.count;
        sound = programmed_sound d b n x can p.sound;
        floor = omega (arith, programmed_floor d b n x here);
      }

  -- the next page can be written
  pub next_page : (d : Card) (n : ℕ) → n < c.shape.pages → d ≡ patterned c b n → NextPage c d b n
  next_page d n l e =
      let p = patterning n (omega arith) in
      rw e (record { shape = p.shape; sound = p.sound; inside = rw p.count h; page_inside = rw p.shape l; above = p.floor })

  -- one page more, on a card that has the pattern below it
  pub patterned_more :
      (d e : Card) (n : ℕ) → n ≤ c.shape.pages → d ≡ patterned c b n → e ≡ programmed d b n (pattern b n d.shape.size) → e ≡ patterned c b (n + 1)
  unfolding patterned
  patterned_more d e n l i done =
      rw add-one (done ∙ ap (λ k. programmed k b n (pattern b n k.shape.size)) i
      ∙ ap (λ t. programmed (patterned c b n) b n (pattern b n t.size)) (patterning n l).shape)

-- an erased block is blank, and can be written on
module _ (c d : Card) (b : ℕ) (ok : erase_refusal c b ≡ None) (e : d ≡ erased c b) where
  pub erased_ready : (b < block_count d) × (floor_at d b ≡ 0)
  erased_ready = let can = can_erase c b ok in rw e (rw (erased_count c b) can.block, erased_floor c b can.block)

  -- then the pattern
  pub erased_first :
      (o : BlockOutcome) (k : Card) → o ≡ ErasedFirst → k ≡ patterned d b d.shape.pages → k ≡ checked_as o c b
  erased_first o k q h =
      rw q (h ∙ ap (λ x. patterned x b x.shape.pages) e ∙ ap (λ t. patterned (erased c b) b t.pages) (erased_shape c b))
