-- The pages of an area programmed into a block, one after the other.
use Rattle.std.proofs.Common.{◌++◌, ◌-◌, sym, refl, inl, inr, length-append, ◌≡◌, ℕ, ◌+◌, ◌*◌, ◌<◌, ◌≤◌, List, length, take, drop, Some, None, ap, ◌∙◌, add-mul, one-mul, add-one, arith}
use Rattle.std.proofs.lemmas.Bool.{cases_lt}
use Rattle.std.proofs.lemmas.Nat.{mul-le}
use Rattle.std.proofs.lemmas.List.{length-drop, take_at, drop_at, drop-drop, drop-take, take-take}
use Rattle.flash.specs.Meaning.{Card, block_count, programmed}
use Rattle.rules.specs.Moves.{Row, filled, cleared}
use Rattle.rules.proofs.CardCounts.{alike_cleared}
use Rattle.rules.proofs.ReadyCards.{Filling, filling_none, filling_skip, filling_put}
use Rattle.rules.proofs.ReadyErases.{cleared_sound, cleared_floor}
use Rattle.store.specs.Moves.{CanFill, row_in}

-- row i of n rows of s places ends within them
pub row_end : (i n s l : ℕ) → i < n → n * s ≤ l → i * s + s ≤ l
row_end i n s l h k =
    let m = mul-le (i + 1) s n s (omega arith) (omega arith) in
    let e = add-mul i 1 s in
    omega (arith, one-mul s)

-- ---- an area of m pages, chunk by chunk

-- the chunks of the pages from n on are left
pub record ChunksFrom (area : List ℕ) (m size n : ℕ) (left : List ℕ) : Type 0 where
  pub from : left ≡ drop (n * size) area
  pub few : n ≤ m

pub chunks_all : (area : List ℕ) (m size n : ℕ) (left : List ℕ) → left ≡ area → n ≡ 0 → ChunksFrom area m size n left
chunks_all area m size n left e z =
    let none : 0 ≡ n * size = omega (arith, ap (λ (k : ℕ). k * size) z) in
    record { from = e ∙ ap (λ (k : ℕ). drop k area) none; few = omega arith }

module _ (area : List ℕ) (m size : ℕ) (some : 0 < size) (len : m * size ≡ length area) (n : ℕ) (left : List ℕ) (h : ChunksFrom area m size n left) where
  left_length : length left ≡ length area - n * size
  left_length = ap length h.from ∙ length-drop (n * size) area

  -- no chunk more
  pub chunks_end : length left < size → n ≡ m
  chunks_end short =
      elim (cases_lt n m) [
        | inl l ↦ let fits = row_end n m size (length area) l (omega arith) in absurd (omega (arith, left_length))
        | inr l ↦ omega (arith, h.few)
      ]

  module _ (x later : List ℕ) (is : left ≡ x ++ later) (long : length x ≡ size) where
    -- the next chunk is a page
    pub chunk_in : n < m
    chunk_in =
        elim (cases_lt n m) [
          | inl l ↦ l
          | inr l ↦
              let past = mul-le m size n size l (omega arith) in
              let more = ap length is ∙ length-append x later in
              absurd (omega (arith, left_length))
        ]

    pub chunk_is : x ≡ take size (drop (n * size) area)
    chunk_is = sym (take_at x later size long) ∙ ap (take size) (sym is ∙ h.from)

    pub chunk_next : (k : ℕ) → k ≡ n + 1 → ChunksFrom area m size k later
    chunk_next k e =
        let z : n * size + size ≡ k * size = omega (arith, add-mul n 1 size, one-mul size, ap (λ (j : ℕ). j * size) e) in
        record {
          from = sym (drop_at x later size long) ∙ ap (drop size) (sym is ∙ h.from) ∙ drop-drop size (n * size) area ∙ ap (λ (j : ℕ). drop j area) z;
          few = omega (arith, chunk_in);
        }

-- a page of the part of an area that m pages fill
pub page_of_used : (area : List ℕ) (m n size : ℕ) → n < m → take size (drop (n * size) (take (m * size) area)) ≡ take size (drop (n * size) area)
page_of_used area m n size h =
    let fits = row_end n m size (m * size) h (omega arith) in
    let left : n * size + (m * size - n * size) ≡ m * size = omega arith in
    ap (λ (k : ℕ). take size (drop (n * size) (take k area))) (sym left)
    ∙ ap (take size) (drop-take (n * size) (m * size - n * size) area)
    ∙ take-take size (m * size - n * size) (drop (n * size) area) (omega arith)

-- ---- the pages, one after the other

-- a cleared block can be programmed from page 0 on
pub fill_starts : (c k : Card) (b n : ℕ) → CanFill c b n → k ≡ cleared c b → Filling k b k 0
fill_starts c k b n can e =
    rw e
    (filling_none (cleared c b) b (cleared_sound c b can.sound can.inside can.lasts)
    (omega (arith, (alike_cleared c b can.inside).blocks_same, can.inside)) (cleared_floor c b can.inside))

module _ (c : Card) (b : ℕ) (row : Row) (n : ℕ) (k : Card) (is : k ≡ filled c b row n) (h : Filling c b k n) where
  module _ (m : ℕ) (more : m ≡ n + 1) where
    pub fill_skip : row n ≡ None → (k ≡ filled c b row m) × Filling c b k m
    unfolding filled
    fill_skip e = rw (more) (rw (add-one, e) is, filling_skip c b k n h)

    pub fill_put :
        (x : List ℕ) (j : Card) → row n ≡ Some x → j ≡ programmed k b n x → n < c.shape.pages → length x ≡ c.shape.size →
        (j ≡ filled c b row m) × Filling c b j m
    unfolding filled
    fill_put x j e g l len = rw (more) (rw (add-one, e) (g ∙ ap (λ (y : Card). programmed y b n x) is), rw g (filling_put c b k n h x l len))

-- before the first page nothing is programmed
pub fill_none : (k : Card) (b : ℕ) (row : Row) (n : ℕ) → n ≡ 0 → Filling k b k 0 → (k ≡ filled k b row n) × Filling k b k n
unfolding filled
fill_none k b row n e h = rw e (refl, h)

pub cleared_as : (c k : Card) (b : ℕ) → b < block_count c → k ≡ cleared c b → k.shape ≡ c.shape
cleared_as c k b h e = ap (λ (y : Card). y.shape) e ∙ (alike_cleared c b h).shape_same

pub fill_all :
    (c k j : Card) (b set size n : ℕ) (area : List ℕ) → j ≡ filled k b (row_in set size area) n → k ≡ cleared c b → size ≡ c.shape.size →
    n ≡ c.shape.pages → j ≡ filled (cleared c b) b (row_in set c.shape.size area) c.shape.pages
fill_all c k j b set size n area e f g h =
    e ∙ ap (λ (y : Card). filled y b (row_in set size area) n) f ∙ ap (λ (s : ℕ). filled (cleared c b) b (row_in set s area) n) g
    ∙ ap (filled (cleared c b) b (row_in set c.shape.size area)) h
