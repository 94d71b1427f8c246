-- What a write to the slots of a block is to the slots that the rules see, and lists of which one element more is turned at a time.
use Rattle.std.proofs.Common.{◌≡◌, ℕ, zero, suc, ◌+◌, ◌<◌, ◌≤◌, Bool, cond, List, [], ◌∷◌, ◌++◌, map, length, get_or, take, drop, set, sym, refl, ap, ◌∙◌, arith}
use Rattle.std.proofs.lemmas.List.{map-set, length-map, length-take-le, get_or-map, get_or_default, take-map}
use Rattle.std.proofs.lemmas.List.Edits.{map_over_more}
use Rattle.std.proofs.lemmas.Bool.{eq-eqb, ne_eqb}
use Rattle.rules.specs.State.{live, dead}
use Rattle.rules.specs.Moves.{retire, of_block}
use Rattle.store.specs.declared.slot.Slot.TheVariants.{Dead}
use Rattle.store.specs.declared.slot.RegionBlock.{RegionBlock}
use Rattle.store.specs.View.{slot_of, slots_of}

-- a write below or above the cut
pub take_set_in : {X : Type 0} (n i : ℕ) (xs : List X) (x : X) → take n (set xs i x) ≡ set (take n xs) i x
take_set_in zero zero [] x = refl
take_set_in zero zero (y ∷ xs) x = refl
take_set_in zero (suc i) [] x = refl
take_set_in zero (suc i) (y ∷ xs) x = refl
take_set_in (suc n) zero [] x = refl
take_set_in (suc n) (suc i) [] x = refl
take_set_in (suc n) zero (y ∷ xs) x = refl
take_set_in (suc n) (suc i) (y ∷ xs) x = ap (λ ys. y ∷ ys) (take_set_in n i xs x)

-- ---- a block of slots

-- as many as are used
pub used_length : (k : RegionBlock) → length (take k.used k.slots) ≡ k.used
used_length k = length-take-le k.used k.slots (omega arith)

-- the rules see as many
pub slots_length : (k : RegionBlock) → length (slots_of k) ≡ k.used
slots_length k = length-map (take k.used k.slots) slot_of ∙ used_length k

-- a slot that is marked as dead
pub marked_slots :
    (k : RegionBlock) (i : ℕ) → map slot_of (take k.used (set k.slots i Dead)) ≡ set (slots_of k) i dead
marked_slots k i =
    ap (map slot_of) (take_set_in k.used i k.slots Dead) ∙ map-set slot_of (take k.used k.slots) i Dead

-- ---- elements that are turned one after the other

-- the first i of xs are turned, and the rest are as they were
abbrev pub turned_below : {X : Type 0} → (X → X) → ℕ → List X → List X
turned_below f i xs = map f (take i xs) ++ drop i xs

pub turned_length : {X : Type 0} (f : X → X) (i : ℕ) (xs : List X) → length (turned_below f i xs) ≡ length xs
turned_length f zero xs = refl
turned_length f (suc i) [] = refl
turned_length f (suc i) (x ∷ xs) = ap suc (turned_length f i xs)

-- the first n of those turned, if all of them are
take_turned : {X : Type 0} (f : X → X) (n i : ℕ) (xs : List X) → n ≤ i → take n (turned_below f i xs) ≡ map f (take n xs)
take_turned f zero i xs h = refl
take_turned f (suc n) zero xs h = absurd (omega arith)
take_turned f (suc n) (suc i) [] h = refl
take_turned f (suc n) (suc i) (x ∷ xs) h = ap (λ ys. f x ∷ ys) (take_turned f n i xs (omega arith))

-- the elements `is` are those of `was`, of which the first i are turned, as g sees them
module _ {X Y : Type 0} (g : X → Y) (f : Y → Y) (i : ℕ) (was is : List X) (so_far : map g is ≡ turned_below f i (map g was)) where
  pub as_many : length is ≡ length was
  as_many = sym (length-map is g) ∙ ap length so_far ∙ turned_length f i (map g was) ∙ length-map was g

  -- one more is turned
  pub turned_more : (x z : X) → i < length was → g x ≡ f (g (get_or is i z)) → map g (set is i x) ≡ turned_below f (i + 1) (map g was)
  turned_more x z h e =
      let in_is : i < length (map g is) = omega (arith, as_many, length-map is g) in
      let in_was : i < length (map g was) = omega (arith, length-map was g) in
      let v : Y = get_or (map g is) i (g z) in
      let at : v ≡ g (get_or is i z) = get_or-map g is i z (g z) (omega (arith, as_many)) in
      map-set g is i x
      ∙ ap (set (map g is) i) (e ∙ ap f (sym at))
      ∙ map_over_more f (map g was) (map g is) i v in_was so_far (get_or_default (map g is) i (g z) v in_is)

  -- the first n are, once so many are passed
  pub turned_first : (n : ℕ) → n ≤ i → map g (take n is) ≡ map f (map g (take n was))
  turned_first n h =
      sym (take-map g n is) ∙ ap (take n) so_far ∙ take_turned f n i (map g was) h ∙ ap (map f) (take-map g n was)

-- ---- slots that die

pub retire_own : (d e j : ℕ) → e ≡ d → retire (of_block d) (live e j) ≡ dead
unfolding retire
retire_own d e j q = ap (λ (b : Bool). cond b dead (live e j)) (eq-eqb e d q)

pub retire_other : (d e j : ℕ) → (e ≡ d → ⊥) → retire (of_block d) (live e j) ≡ live e j
unfolding retire
retire_other d e j q = ap (λ (b : Bool). cond b dead (live e j)) (ne_eqb e d q)

pub retire_dead : (d : ℕ) → retire (of_block d) dead ≡ dead
unfolding retire
retire_dead d = refl
