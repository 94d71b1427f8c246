-- Programs into one block: the copies of a compaction and the pages of a data block written anew are all accepted, and leave a sound card.
use Rattle.std.proofs.Common.{◌≡◌, ℕ, zero, suc, ◌+◌, ◌<◌, ◌≤◌, ◌≢◌, List, [], ◌∷◌, length, Some, None, Option, refl, ap, ◌∙◌, arith}
use Rattle.flash.specs.Meaning.{Card, Shape, block_at, block_count, page_at, floor_at, erase_count_at, programmed, Sound}
use Rattle.flash.specs.Refusals.{read_refusal, program_refusal}
use Rattle.flash.proofs.CardLaws.{programmed_shape, programmed_count, programmed_elsewhere, programmed_floor, programmed_erases}
use Rattle.flash.proofs.RefusalLaws.{CanProgram, read_accepted, program_accepted}
use Rattle.flash.proofs.SoundLaws.{programmed_sound}
use Rattle.rules.specs.State.{Slot, live, dead}
use Rattle.rules.specs.Moves.{Row, kept, copied, put, filled}

-- what programs into block b leave of the card c₀: a sound card, with the other blocks and every erase count as they were
pub record Written (c₀ : Card) (b : ℕ) (c : Card) : Type 0 where
  pub sound : Sound c
  pub shape_same : c.shape ≡ c₀.shape
  pub blocks_same : block_count c ≡ block_count c₀
  pub elsewhere : (k : ℕ) → k ≢ b → block_at c k ≡ block_at c₀ k
  pub erases_same : (k : ℕ) → erase_count_at c k ≡ erase_count_at c₀ k

written_none : (c : Card) (b : ℕ) → Sound c → Written c b c
written_none c b s =
    record { sound = s; shape_same = refl; blocks_same = refl; elsewhere = λ k ne. refl; erases_same = λ k. refl }

written_more :
    (c₀ : Card) (b : ℕ) (c : Card) (p : ℕ) (x : List ℕ) → Written c₀ b c → CanProgram c b p (length x) →
    Written c₀ b (programmed c b p x)
written_more c₀ b c p x w can =
    record {
      sound = programmed_sound c b p x can w.sound;
      shape_same = programmed_shape c b p x ∙ w.shape_same;
      blocks_same = programmed_count c b p x ∙ w.blocks_same;
      elsewhere = λ k ne. programmed_elsewhere c b p x k ne ∙ w.elsewhere k ne;
      erases_same = λ k. programmed_erases c b p x k can.block ∙ w.erases_same k;
    }

module _ (c₀ : Card) (b : ℕ) (c : Card) (w : Written c₀ b c) where
  pub pages_same : c.shape.pages ≡ c₀.shape.pages
  pages_same = ap (λ (s : Shape). s.pages) w.shape_same

  pub size_same : c.shape.size ≡ c₀.shape.size
  size_same = ap (λ (s : Shape). s.size) w.shape_same

  pub endurance_same : c.shape.endurance ≡ c₀.shape.endurance
  endurance_same = ap (λ (s : Shape). s.endurance) w.shape_same

  -- a page that is not below the floor may be programmed next
  can_write :
      (p n : ℕ) → b < block_count c₀ → p < c₀.shape.pages → n ≡ c₀.shape.size → floor_at c b ≤ p → CanProgram c b p n
  can_write p n hb hp e above =
      record {
        block = omega (arith, w.blocks_same);
        page = omega (arith, pages_same);
        bytes = omega (arith, size_same);
        above = above;
      }

-- ---- the copies of a compaction

-- the slots below s of block `from` are done, and block `to`, which was blank, holds t copies
pub record Copying (c₀ : Card) (from to : ℕ) (c : Card) (s t : ℕ) : Type 0 where
  pub written : Written c₀ to c
  pub from_in : from < block_count c₀
  pub to_in : to < block_count c₀
  pub floor : floor_at c to ≡ t
  pub few : t ≤ s

pub copying_none :
    (c : Card) (from to : ℕ) → Sound c → from < block_count c → to < block_count c → floor_at c to ≡ 0 → Copying c from to c 0 0
copying_none c from to s hf ht z =
    record { written = written_none c to s; from_in = hf; to_in = ht; floor = z; few = omega arith }

module _ (c₀ : Card) (from to : ℕ) (c : Card) (s t : ℕ) (h : Copying c₀ from to c s t) where
  -- the page of a slot is as long as a page
  copy_size : s < c₀.shape.pages → length (page_at c from s) ≡ c₀.shape.size
  copy_size hs =
      let w = h.written in
      let b = w.sound.each from (omega (arith, w.blocks_same, h.from_in)) in
      b.page_sizes s (omega (arith, pages_same c₀ to c w)) ∙ size_same c₀ to c w

  copy_can : (n : ℕ) → s < c₀.shape.pages → n ≡ c₀.shape.size → CanProgram c to t n
  copy_can n hs e = can_write c₀ to c h.written t n h.to_in (omega (arith, h.few)) e (omega (arith, h.floor))

  -- the page may be read, and the next page of the blank block programmed
  pub copying_reads : (n : ℕ) → s < c₀.shape.pages → n ≡ c₀.shape.size → read_refusal c from s n ≡ None
  copying_reads n hs e =
      let w = h.written in
      read_accepted c from s n
      (record {
        block = omega (arith, w.blocks_same, h.from_in);
        page = omega (arith, pages_same c₀ to c w);
        bytes = omega (arith, size_same c₀ to c w);
      })

  pub copying_programs : (n : ℕ) → s < c₀.shape.pages → n ≡ c₀.shape.size → program_refusal c to t n ≡ None
  copying_programs n hs e = program_accepted c to t n (copy_can n hs e)

  pub copying_at : (s' t' : ℕ) → s ≡ s' → t ≡ t' → Copying c₀ from to c s' t'
  copying_at s' t' e f =
      record {
        written = h.written;
        from_in = h.from_in;
        to_in = h.to_in;
        floor = omega (arith, h.floor);
        few = omega (arith, h.few);
      }

  -- a dead slot is passed over, and a live one is copied
  pub copying_dead : Copying c₀ from to c (s + 1) t
  copying_dead =
      record { written = h.written; from_in = h.from_in; to_in = h.to_in; floor = h.floor; few = omega (arith, h.few) }

  pub copying_live : s < c₀.shape.pages → Copying c₀ from to (programmed c to t (page_at c from s)) (s + 1) (t + 1)
  copying_live hs =
      let x = page_at c from s in
      let can = copy_can (length x) hs (copy_size hs) in
      record {
        written = written_more c₀ to c t x h.written can;
        from_in = h.from_in;
        to_in = h.to_in;
        floor = programmed_floor c to t x can.block;
        few = omega (arith, h.few);
      }

-- all slots of a list
pub copying_all :
    (c₀ : Card) (from to : ℕ) (xs : List Slot) (c : Card) (s t : ℕ) → Copying c₀ from to c s t →
    s + length xs ≤ c₀.shape.pages → Copying c₀ from to (copied from to xs s t c) (s + length xs) (t + length (kept xs))
unfolding copied kept
copying_all c₀ from to [] c s t h l = copying_at c₀ from to c s t h (s + 0) (t + 0) (omega arith) (omega arith)
copying_all c₀ from to (dead ∷ xs) c s t h l =
    copying_at c₀ from to (copied from to xs (s + 1) t c) (s + 1 + length xs) (t + length (kept xs))
    (copying_all c₀ from to xs c (s + 1) t (copying_dead c₀ from to c s t h) (omega arith)) (s + length (dead ∷ xs)) (t + length (kept xs))
    (omega arith) refl
copying_all c₀ from to (live d i ∷ xs) c s t h l =
    let k = programmed c to t (page_at c from s) in
    copying_at c₀ from to (copied from to xs (s + 1) (t + 1) k) (s + 1 + length xs) (t + 1 + length (kept xs))
    (copying_all c₀ from to xs k (s + 1) (t + 1) (copying_live c₀ from to c s t h (omega arith)) (omega arith))
    (s + length (live d i ∷ xs)) (t + length (live d i ∷ kept xs)) (omega arith) (omega arith)

-- ---- the pages of a data block, in ascending order

-- a row whose pages are as long as a page
abbrev pub Sized : ℕ → Row → Type 0
Sized size row = (i : ℕ) (x : List ℕ) → row i ≡ Some x → length x ≡ size

-- the pages below n are done in block b, which was blank
pub record Filling (c₀ : Card) (b : ℕ) (c : Card) (n : ℕ) : Type 0 where
  pub written : Written c₀ b c
  pub inside : b < block_count c₀
  pub floor : floor_at c b ≤ n

pub filling_none : (c : Card) (b : ℕ) → Sound c → b < block_count c → floor_at c b ≡ 0 → Filling c b c 0
filling_none c b s h z = record { written = written_none c b s; inside = h; floor = omega arith }

module _ (c₀ : Card) (b : ℕ) (c : Card) (n : ℕ) (h : Filling c₀ b c n) where
  pub filling_programs : (m : ℕ) → n < c₀.shape.pages → m ≡ c₀.shape.size → program_refusal c b n m ≡ None
  filling_programs m hn e = program_accepted c b n m (can_write c₀ b c h.written n m h.inside hn e h.floor)

  -- a page that the row lacks is passed over, and one that it has is programmed
  pub filling_skip : Filling c₀ b c (n + 1)
  filling_skip = record { written = h.written; inside = h.inside; floor = omega (arith, h.floor) }

  pub filling_put : (x : List ℕ) → n < c₀.shape.pages → length x ≡ c₀.shape.size → Filling c₀ b (programmed c b n x) (n + 1)
  filling_put x hn e =
      let can = can_write c₀ b c h.written n (length x) h.inside hn e h.floor in
      record {
        written = written_more c₀ b c n x h.written can;
        inside = h.inside;
        floor = omega (arith, programmed_floor c b n x can.block);
      }

-- all pages below n of a row
pub filling_all :
    (c : Card) (b : ℕ) (row : Row) → Sized c.shape.size row → Filling c b c 0 → (n : ℕ) → n ≤ c.shape.pages →
    Filling c b (filled c b row n) n
unfolding filled
filling_all c b row sized h zero l = h
filling_all c b row sized h (suc n) l = go (row n) refl (filling_all c b row sized h n (omega arith))
  where
    k : Card
    k = filled c b row n

    at : (e : Card) → Filling c b e (n + 1) → Filling c b e (suc n)
    at e f = record { written = f.written; inside = f.inside; floor = omega (arith, f.floor) }

    go : (o : Option (List ℕ)) → row n ≡ o → Filling c b k n → Filling c b (put k b n o) (suc n)
    go None e f = at k (filling_skip c b k n f)
    go (Some x) e f = at (programmed k b n x) (filling_put c b k n f x (omega arith) (sized n x e))
