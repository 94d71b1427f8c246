-- Program and erase keep a card sound, and soundness is a proposition.
use Rattle.std.proofs.Common.{◌≡◌, ℕ, ◌+◌, ◌<◌, ◌≤◌, true, ◌≢◌, List, [], length, get_or, set, ⊎_elim, arith}
use mathlib.Core.Logic.{∥∥₁_elim}
use denote.Struct.Props.{props}
use std.HLevel.{Π_prop}
use native.Mathlib.Bridge.{le_prop}
use Rattle.std.proofs.lemmas.List.{length-set, get_or-set_same, get_or-set_other, length-replicate, get_or-replicate}
use Rattle.std.proofs.lemmas.Bool.{cases_eq}
use Rattle.std.proofs.lemmas.Bool.Decides.{nat_tests}
use Rattle.flash.specs.declared.geometry.Geometry.{Geometry}
use Rattle.flash.specs.Limits.{within_limits}
use Rattle.flash.specs.Meaning.{Card, Shape, Block, absent, blank_page, blank_block, blank_card, no_card, block_at, block_count, erase_count_at, programmed, erased, Sound, SoundBlock}
use Rattle.flash.proofs.CardLaws.{programmed_shape, programmed_count, programmed_here, programmed_elsewhere, erased_shape, erased_count, erased_here, erased_elsewhere}
use Rattle.flash.proofs.RefusalLaws.{CanProgram, CanErase}

-- a card of the same shape and as many blocks, all of them sound
pub sound_as :
    (c d : Card) → d.shape ≡ c.shape → block_count d ≡ block_count c → Sound c →
    ((b : ℕ) → b < block_count c → SoundBlock c.shape (block_at d b)) → Sound d
sound_as c d e f s each =
    record {
      pages_low = rw e s.pages_low;
      pages_high = rw e s.pages_high;
      size_low = rw e s.size_low;
      size_high = rw e s.size_high;
      endurance_low = rw e s.endurance_low;
      endurance_high = rw e s.endurance_high;
      blocks_high = rw f s.blocks_high;
      each = λ b h. rw e (each b (rw f at h));
    }

-- a blank block is sound while its count is
pub blank_sound : (s : Shape) (n : ℕ) → n ≤ s.endurance → SoundBlock s (blank_block s n)
blank_sound s n h =
    record {
      page_count = length-replicate s.pages (blank_page s);
      page_sizes = λ p k. rw (get_or-replicate s.pages p (blank_page s) [] k) (length-replicate s.size 255);
      floor_high = omega arith;
      erases_high = h;
      blank_above = λ p k l. get_or-replicate s.pages p (blank_page s) [] k;
    }

pub no_card_sound : Sound no_card
no_card_sound =
    record {
      pages_low = omega arith;
      pages_high = omega arith;
      size_low = omega arith;
      size_high = omega arith;
      endurance_low = omega arith;
      endurance_high = omega arith;
      blocks_high = omega arith;
      each = λ b h. absurd (omega arith);
    }

-- what measures within their limits tell
pub record Limited (g : Geometry) : Type 0 where
  pub blocks_high : g.blocks ≤ 256
  pub pages_low : 2 ≤ g.pages
  pub pages_high : g.pages ≤ 64
  pub size_low : 4 ≤ g.size
  pub size_high : g.size ≤ 4096
  pub endurance_low : 1 ≤ g.endurance
  pub endurance_high : g.endurance ≤ 1000000

pub limited : (g : Geometry) → within_limits g ≡ true → Limited g
limited g e =
    record {
      blocks_high = grind (arith, nat_tests);
      pages_low = grind (arith, nat_tests);
      pages_high = grind (arith, nat_tests);
      size_low = grind (arith, nat_tests);
      size_high = grind (arith, nat_tests);
      endurance_low = grind (arith, nat_tests);
      endurance_high = grind (arith, nat_tests);
    }

pub blank_card_sound : (g : Geometry) → Limited g → Sound (blank_card g)
blank_card_sound g l =
    record {
      pages_low = l.pages_low;
      pages_high = l.pages_high;
      size_low = l.size_low;
      size_high = l.size_high;
      endurance_low = l.endurance_low;
      endurance_high = l.endurance_high;
      blocks_high = rw (length-replicate g.blocks (blank_block (blank_card g).shape 0)) l.blocks_high;
      each = λ b h.
          let k : b < g.blocks = rw (length-replicate g.blocks (blank_block (blank_card g).shape 0)) at h in
          rw (get_or-replicate g.blocks b (blank_block (blank_card g).shape 0) absent k)
          (blank_sound (blank_card g).shape 0 (omega arith));
    }

module _ (c : Card) (b p : ℕ) (x : List ℕ) (can : CanProgram c b p (length x)) where
  programmed_block_sound :
      SoundBlock c.shape (block_at c b) →
      SoundBlock c.shape (record { pages = set (block_at c b).pages p x; floor = p + 1; erases = erase_count_at c b })
  programmed_block_sound s =
      record {
        page_count = rw length-set s.page_count;
        page_sizes = λ q h.
            ⊎_elim
            (λ (e : q ≡ p).
            let l : p < length (block_at c b).pages = omega (arith, can.page, s.page_count) in
            rw (e, get_or-set_same (block_at c b).pages p x [] l) can.bytes)
            (λ (ne : q ≢ p). rw (get_or-set_other (block_at c b).pages p q x [] ne) (s.page_sizes q h))
            (cases_eq q p);
        floor_high = omega (arith, can.page);
        erases_high = s.erases_high;
        blank_above = λ q h low.
            let ne : q ≢ p = omega arith in
            rw (get_or-set_other (block_at c b).pages p q x [] ne) (s.blank_above q h (omega (arith, can.above)));
      }

  pub programmed_sound : Sound c → Sound (programmed c b p x)
  programmed_sound s =
      sound_as c (programmed c b p x) (programmed_shape c b p x) (programmed_count c b p x) s
      (λ k h.
      ⊎_elim
      (λ (e : k ≡ b). rw (e, programmed_here c b p x can.block) (programmed_block_sound (s.each b can.block)))
      (λ (ne : k ≢ b). rw (programmed_elsewhere c b p x k ne) (s.each k h))
      (cases_eq k b))

pub erased_sound : (c : Card) (b : ℕ) → CanErase c b → Sound c → Sound (erased c b)
erased_sound c b can s =
    sound_as c (erased c b) (erased_shape c b) (erased_count c b) s
    (λ k h.
    ⊎_elim
    (λ (e : k ≡ b). rw (e, erased_here c b can.block) (blank_sound c.shape (erase_count_at c b + 1) (omega (arith, can.below))))
    (λ (ne : k ≢ b). rw (erased_elsewhere c b k ne) (s.each k h))
    (cases_eq k b))

sound_block_prop : (s : Shape) (x : Block) → IsProp (SoundBlock s x)
sound_block_prop s x a b =
    let counts : IsProp (length x.pages ≡ s.pages) = hlevel props in
    let sizes : IsProp ((p : ℕ) → p < s.pages → length (get_or x.pages p []) ≡ s.size) = hlevel props in
    let blanks : IsProp ((p : ℕ) → p < s.pages → x.floor ≤ p → get_or x.pages p [] ≡ blank_page s) = Π_prop (λ p. Π_prop (λ h. Π_prop (λ l. hlevel props))) in
    λ i. record {
      page_count = counts a.page_count b.page_count i;
      page_sizes = sizes a.page_sizes b.page_sizes i;
      floor_high = le_prop a.floor_high b.floor_high i;
      erases_high = le_prop a.erases_high b.erases_high i;
      blank_above = blanks a.blank_above b.blank_above i;
    }

sound_prop : (c : Card) → IsProp (Sound c)
sound_prop c a b =
    let eachs : IsProp ((k : ℕ) → k < block_count c → SoundBlock c.shape (block_at c k)) = Π_prop (λ k. Π_prop (λ h. sound_block_prop c.shape (block_at c k))) in
    λ i. record {
      pages_low = le_prop a.pages_low b.pages_low i;
      pages_high = le_prop a.pages_high b.pages_high i;
      size_low = le_prop a.size_low b.size_low i;
      size_high = le_prop a.size_high b.size_high i;
      endurance_low = le_prop a.endurance_low b.endurance_low i;
      endurance_high = le_prop a.endurance_high b.endurance_high i;
      blocks_high = le_prop a.blocks_high b.blocks_high i;
      each = eachs a.each b.each i;
    }

-- a chip keeps its soundness truncated, in a ghost field; here it comes out again
pub open_sound : (c : Card) → ∥ Sound c ∥₁ → Sound c
open_sound c s = ∥∥₁_elim s (sound_prop c) (λ x. x)
