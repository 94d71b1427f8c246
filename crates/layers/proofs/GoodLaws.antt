-- The good blocks of a flash by their numbers, and what a flash means through its good blocks.
use Rattle.std.proofs.Common.{◌≡◌, ℕ, zero, suc, ◌+◌, ◌<◌, ◌≤◌, Bool, true, false, cond, not, ◌||◌, eqb, ltb, ◌≢◌, List, [], ◌∷◌, ◌++◌, map, length, get_or, take, set, replicate, filter, sum_by, Ok, Err, Result, MatchResult, Some, None, sym, refl, ap, ◌∙◌, subst, ⊎_elim, add-one, arith}
use Rattle.std.specs.List.{range_with_len}
use Rattle.std.proofs.lemmas.List.FromFn.{length-range_with_len, filter_of_map_range_with_len_more, fill_by_all}
use Rattle.std.proofs.lemmas.List.{map-id, append-nil, take_more, length-set, length-map, length_push, length-take-le, get_or-take, get_or-map, get_or_append_left, get_or_push, get_or-set_same, get_or-set_other}
use Rattle.std.proofs.lemmas.List.Filters.{length-filter_both}
use Rattle.std.proofs.lemmas.List.Sums.{sum_by-cons}
use Rattle.std.specs.Option.{ok_or}
use Rattle.std.proofs.lemmas.Option.{cond_some}
use Rattle.std.proofs.lemmas.Bool.{cond-true, cases_lt, cases_Bool, both_ways, or_right, lt-ltb, ltb-true, ltb-false}
use Rattle.std.proofs.lemmas.Bool.Decides.{nat_tests}
use Rattle.flash.specs.declared.block.PhysicalBlock.{PhysicalBlock}
use Rattle.flash.specs.declared.geometry.Geometry.{Geometry}
use Rattle.flash.specs.declared.refusal.Refusal.{Refusal}
use Rattle.flash.specs.declared.refusal.Refusal.TheVariants.{NoSuchBlock}
use Rattle.flash.specs.Meaning.{Card, Block, absent, block_at, block_count, geometry_of, with_block, Sound}
use Rattle.layers.specs.Good.{among, bad_table, good_numbers, good_block, good_card}
use Rattle.layers.proofs.MapLaws.{map_put, counting_put}
use Rattle.layers.proofs.WhenLaws.{none_when, ok_when, err_when}
use Rattle.layers.proofs.FlashLaws.{missing_block, with_count, geometry_with, sound_of}
use Rattle.layers.proofs.SeenLaws.{Seen}

-- one more block given
among_same : (xs : List PhysicalBlock) (y : PhysicalBlock) → among (xs ++ y ∷ []) y.0 ≡ true
among_same [] y = grind (arith, nat_tests)
among_same (x ∷ xs) y = or_right (eqb x.0 y.0) (among (xs ++ y ∷ []) y.0) (among_same xs y)

among_other : (xs : List PhysicalBlock) (y : PhysicalBlock) (b : ℕ) → b ≢ y.0 → among (xs ++ y ∷ []) b ≡ among xs b
among_other [] y b ne = let other : y.0 ≢ b = λ (e : y.0 ≡ b). ne (sym e) in grind (arith, nat_tests)
among_other (x ∷ xs) y b ne = ap (λ (t : Bool). eqb x.0 b || t) (among_other xs y b ne)

pub table_none : replicate 256 false ≡ bad_table []
unfolding bad_table
table_none = refl

-- one more block given is one more block marked; a number past the end of the table marks nothing
pub table_more :
    (xs : List PhysicalBlock) (i : ℕ) → i < length xs →
    bad_table (take (i + 1) xs) ≡ set (bad_table (take i xs)) (get_or xs i (record { 0 = 0 })).0 true
unfolding bad_table
table_more xs i h =
    let y : PhysicalBlock = get_or xs i (record { 0 = 0 }) in
    ap bad_table (take_more xs i (record { 0 = 0 }) h)
    ∙ counting_put (among (take i xs)) (among (take i xs ++ y ∷ [])) 256 y.0 true
    (λ _. among_same (take i xs) y)
    (λ b ne. among_other (take i xs) y b ne)

-- a filter of values that a function gives of numbers is a filter of the numbers
filter_mapped : {X : Type 0} (p : X → Bool) (f : ℕ → X) (xs : List ℕ) → filter p (map f xs) ≡ map f (filter (λ b. p (f b)) xs)
filter_mapped p f [] = refl
filter_mapped p f (x ∷ xs) =
    elim (p (f x)) as (λ t. cond t (f x ∷ filter p (map f xs)) (filter p (map f xs)) ≡ map f (cond t (x ∷ filter (λ b. p (f b)) xs) (filter (λ b. p (f b)) xs))) [
      | true ↦ ap (λ ys. f x ∷ ys) (filter_mapped p f xs)
      | false ↦ filter_mapped p f xs
    ]

abbrev pub block_of : ℕ → PhysicalBlock
block_of b = record { 0 = b }

-- a mark that is not set counts as one block
abbrev pub one_good : Bool → ℕ
one_good t = cond t 0 1

pub ones_good : (ts : List Bool) → sum_by one_good ts ≡ length (filter not ts)
ones_good [] = refl
ones_good (true ∷ ts) = omega (arith, sum_by-cons one_good true ts, ones_good ts)
ones_good (false ∷ ts) = omega (arith, sum_by-cons one_good false ts, ones_good ts)

pub few_good : (ts : List Bool) → sum_by one_good ts ≤ length ts
few_good [] = omega arith
few_good (true ∷ ts) = omega (arith, sum_by-cons one_good true ts, few_good ts)
few_good (false ∷ ts) = omega (arith, sum_by-cons one_good false ts, few_good ts)

module _ (ts : List Bool) where
  numbers_more : (n : ℕ) → good_numbers ts (n + 1) ≡ good_numbers ts n ++ cond (not (get_or ts n false)) (n ∷ []) []
  numbers_more n =
      simp map-id at (filter_of_map_range_with_len_more (λ b. not (get_or ts b false)) (λ b. b) 0 n n (omega arith))

  -- a bad block has no number among the good ones
  numbers_bad : (n : ℕ) → get_or ts n false ≡ true → good_numbers ts (n + 1) ≡ good_numbers ts n
  numbers_bad n e = numbers_more n ∙ ap (λ (t : Bool). good_numbers ts n ++ cond (not t) (n ∷ []) []) e ∙ append-nil (good_numbers ts n)

  -- a good block is the next of the good ones
  numbers_good : (n : ℕ) → get_or ts n false ≡ false → good_numbers ts (n + 1) ≡ good_numbers ts n ++ n ∷ []
  numbers_good n e = numbers_more n ∙ ap (λ (t : Bool). good_numbers ts n ++ cond (not t) (n ∷ []) []) e

  pub count_bad : (n : ℕ) → get_or ts n false ≡ true → length (good_numbers ts (n + 1)) ≡ length (good_numbers ts n)
  count_bad n e = ap length (numbers_bad n e)

  pub count_good : (n : ℕ) → get_or ts n false ≡ false → length (good_numbers ts (n + 1)) ≡ length (good_numbers ts n) + 1
  count_good n e = ap length (numbers_good n e) ∙ length_push (good_numbers ts n) n

  -- the marks of the first n blocks
  front_marks : (n : ℕ) → n ≤ length ts → take n ts ≡ map (λ b. get_or ts b false) (range_with_len 0 n)
  front_marks n h = fill_by_all (λ b. get_or ts b false) (take n ts) n false (length-take-le n ts h) (λ k l. get_or-take n ts k false l)

  -- the good blocks are those whose marks are not set
  pub unmarked_count : (n : ℕ) → n ≤ length ts → length (filter not (take n ts)) ≡ length (good_numbers ts n)
  unmarked_count n h =
      ap (λ (xs : List Bool). length (filter not xs)) (front_marks n h)
      ∙ ap length (filter_mapped not (λ b. get_or ts b false) (range_with_len 0 n))
      ∙ length-map (good_numbers ts n) (λ b. get_or ts b false)

  -- what holds of the numbers below n + 1, from what holds of those below n
  numbers_suc :
      (n : ℕ) (P : List ℕ → Type 0) → (get_or ts n false ≡ true → P (good_numbers ts n)) →
      (get_or ts n false ≡ false → P (good_numbers ts n ++ n ∷ [])) → P (good_numbers ts (suc n))
  numbers_suc n P bad good =
      ⊎_elim
      (λ (e : get_or ts n false ≡ true). subst P (sym (numbers_bad n e) ∙ ap (good_numbers ts) (add-one n)) (bad e))
      (λ (e : get_or ts n false ≡ false). subst P (sym (numbers_good n e) ∙ ap (good_numbers ts) (add-one n)) (good e))
      (cases_Bool (get_or ts n false))

  -- the good block k of the first n: so many good ones come before it
  record Numbered (n k j : ℕ) : Type 0 where
    within : j < n
    place : length (good_numbers ts j) ≡ k

  numbered : (n k : ℕ) → k < length (good_numbers ts n) → Numbered n k (get_or (good_numbers ts n) k 0)
  numbered zero k h = absurd (omega arith)
  numbered (suc n) k h =
      let ns : List ℕ = good_numbers ts n in
      let before : k < length ns → Numbered (suc n) k (get_or ns k 0) = λ l. let r = numbered n k l in record { within = omega (arith, r.within); place = r.place } in
      numbers_suc n (λ xs. k < length xs → Numbered (suc n) k (get_or xs k 0)) (λ e. before)
      (λ e less.
      ⊎_elim
      (λ (l : k < length ns). rw (get_or_append_left ns (n ∷ []) 0 k l) (before l))
      (λ (l : length ns ≤ k).
      let m : length ns ≡ k = omega (arith, length_push ns n) in
      rw (get_or_push ns n 0 k m) (record { within = omega arith; place = m }))
      (cases_lt k (length ns)))
      h

  -- a good block has its place among the good ones
  record Placed (j : ℕ) (ns : List ℕ) : Type 0 where
    less : length (good_numbers ts j) < length ns
    is : get_or ns (length (good_numbers ts j)) 0 ≡ j

  placed : (n j : ℕ) → j < n → get_or ts j false ≡ false → Placed j (good_numbers ts n)
  placed zero j h good = absurd (omega arith)
  placed (suc n) j h good =
      let ns : List ℕ = good_numbers ts n in
      numbers_suc n (Placed j)
      (λ e.
      let ne : j ≢ n = λ (s : j ≡ n). both_ways (get_or ts j false) good (ap (λ i. get_or ts i false) s ∙ e) in
      placed n j (omega arith) good)
      (λ e.
      let p = length_push ns n in
      ⊎_elim
      (λ (l : j < n).
      let r = placed n j l good in
      record { less = omega (arith, r.less); is = get_or_append_left ns (n ∷ []) 0 (length (good_numbers ts j)) r.less ∙ r.is })
      (λ (l : n ≤ j).
      let s : j ≡ n = omega arith in
      rw s (record { less = omega arith; is = get_or_push ns n 0 (length ns) refl }))
      (cases_lt j n))

  -- the good block at which a search for the good block k ends
  pub good_found :
      (n k j : ℕ) → j < n → get_or ts j false ≡ false → length (good_numbers ts j) ≡ k → Some (record { 0 = j }) ≡ good_block ts n k
  good_found n k j h good place =
      let ns : List ℕ = good_numbers ts n in
      let r = placed n j h good in
      let less : k < length ns = omega (arith, r.less) in
      ap (λ i. Some (record { 0 = i })) (sym r.is ∙ ap (λ i. get_or ns i 0) place)
      ∙ sym (cond-true (ltb k (length ns)) (Some (record { 0 = get_or ns k 0 })) None (lt-ltb k (length ns) less))

  -- a good block, seen through the layer
  pub seen_good : (c : Card) (k : ℕ) (j : PhysicalBlock) → Some j ≡ good_block ts (block_count c) k → Seen (good_card ts) c j.0 k
  unfolding good_card
  seen_good c k j h =
      let n = block_count c in
      let ns : List ℕ = good_numbers ts n in
      let (t, e) = cond_some (ltb k (length ns)) (block_of (get_or ns k 0)) j (sym h) in
      let l = ltb-true k (length ns) t in
      let q : get_or ns k 0 ≡ j.0 = ap (λ (b : PhysicalBlock). b.0) e in
      let r = numbered n k l in
      let w : j.0 < n = omega (arith, r.within) in
      record {
        there = rw (length-map ns (block_at c)) (t ∙ sym (lt-ltb j.0 n w));
        shape = refl;
        block = get_or-map (block_at c) ns k 0 absent l ∙ ap (block_at c) q;
        put = λ z.
            ap (λ (m : ℕ). record { shape = c.shape; blocks = map (block_at (with_block c j.0 z)) (good_numbers ts m) }) (length-set c.blocks j.0 z)
            ∙ ap (λ (bs : List Block). record { shape = c.shape; blocks = bs })
            (map_put (block_at c) (block_at (with_block c j.0 z)) ns k z
            (λ _. ap (block_at (with_block c j.0 z)) q ∙ get_or-set_same c.blocks j.0 z absent w)
            (λ i m ne.
            get_or-set_other c.blocks j.0 (get_or ns i 0) z absent
            (λ (s : get_or ns i 0 ≡ j.0). ne (sym (numbered n i m).place ∙ ap (λ b. length (good_numbers ts b)) (s ∙ sym q) ∙ r.place))));
      }

  pub good_count : (c : Card) → block_count (good_card ts c) ≡ length (good_numbers ts (block_count c))
  unfolding good_card
  good_count c = length-map (good_numbers ts (block_count c)) (block_at c)

  pub good_shape : (c : Card) → (good_card ts c).shape ≡ c.shape
  unfolding good_card
  good_shape c = refl

  -- past the last good block there is none
  pub good_missing : (c : Card) (k : ℕ) → None ≡ good_block ts (block_count c) k → block_count (good_card ts c) ≤ k
  good_missing c k h =
      let ns : List ℕ = good_numbers ts (block_count c) in
      rw (good_count c) (ltb-false k (length ns) (none_when (ltb k (length ns)) (record { 0 = get_or ns k 0 }) h))

  -- what the look for the block below tells: a block seen through the layer, or no block of the layer
  module _ (c : Card) (k : ℕ) (r : Result PhysicalBlock Refusal) (made : r ≡ ok_or (good_block ts (block_count c) k) NoSuchBlock) where
    pub seen_below : (j : PhysicalBlock) → r ≡ Ok j → Seen (good_card ts) c j.0 k
    seen_below j is = seen_good c k j (ok_when (good_block ts (block_count c) k) r NoSuchBlock j made is)

    pub none_below : (e : Refusal) → r ≡ Err e → (block_count (good_card ts c) ≤ k) × (e ≡ NoSuchBlock)
    none_below e is =
        let no = err_when (good_block ts (block_count c) k) r NoSuchBlock e made is in
        (good_missing c k no.0, no.1)

  -- what is measured of a block, and is 0 where there is none
  pub measure_below :
      (measure : Block → ℕ) (c : Card) (k : ℕ) (r : Result PhysicalBlock Refusal) (n : ℕ) → 0 ≡ measure absent →
      r ≡ ok_or (good_block ts (block_count c) k) NoSuchBlock →
      MatchResult r (λ j. n ≡ measure (block_at c j.0)) (λ _. n ≡ 0) → n ≡ measure (block_at (good_card ts c) k)
  measure_below measure c k (Ok j) n none made h = h ∙ ap measure (sym (seen_below c k (Ok j) made j refl).block)
  measure_below measure c k (Err e) n none made h =
      h ∙ none ∙ ap measure (missing_block (good_card ts c) k (none_below c k (Err e) made e refl).0)

  -- the measures of the layer, by the measures g of the flash below and the number n of good blocks
  pub good_geometry :
      (c : Card) (g : Geometry) (n : ℕ) → g ≡ geometry_of c → n ≡ length (good_numbers ts g.blocks) →
      with_count n g ≡ geometry_of (good_card ts c)
  good_geometry c g n e count =
      geometry_with c (good_card ts c) g n (good_shape c)
      (good_count c ∙ ap (λ (x : Geometry). length (good_numbers ts x.blocks)) (sym e) ∙ sym count) e

  pub good_sound : (c : Card) → Sound c → Sound (good_card ts c)
  unfolding good_card
  good_sound c s =
      let n = block_count c in
      let ns : List ℕ = good_numbers ts n in
      let count = length-map ns (block_at c) in
      let few = length-filter_both (λ b. not (get_or ts b false)) (λ b. not (not (get_or ts b false))) (λ b. refl) (range_with_len 0 n) in
      sound_of c (good_card ts c) refl (omega (arith, count, few, length-range_with_len 0 n, s.blocks_high)) s
      (λ k h.
      let l : k < length ns = rw count at h in
      rw (get_or-map (block_at c) ns k 0 absent l) (s.each (get_or ns k 0) (numbered n k l).within))
