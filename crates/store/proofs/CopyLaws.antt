-- The live pages of a block, copied one after the other.
use Rattle.std.proofs.Common.{◌≡◌, ℕ, ◌+◌, ◌<◌, ◌≤◌, List, [], ◌∷◌, ◌++◌, map, length, get_or, take, drop, sym, ap, ◌∙◌, subst, append_assoc, arith}
use Rattle.std.proofs.lemmas.List.{drop_more, drop_all, append-nil, length-map, get_or-map}
use Rattle.flash.specs.Meaning.{Card, page_at, programmed}
use Rattle.rules.specs.State.{Slot, live, dead}
use Rattle.rules.specs.Moves.{kept, copied}
use Rattle.rules.proofs.ReadyCards.{Copying, copying_none, copying_dead, copying_live}
use Rattle.store.specs.declared.slot.Slot as declared
use Rattle.store.specs.declared.slot.RegionBlock.{RegionBlock}
use Rattle.store.specs.Moves.{CanCopy}
use Rattle.store.specs.View.{slot_of, slots_of}
use Rattle.store.proofs.SlotLaws.{slots_length}

-- the first i of the slots xs are done: the copies ys lie in the t first pages of block `to`, and the card is k
pub record CopiedTo (c : Card) (xs : List Slot) (from to i : ℕ) (k : Card) (ys : List Slot) (t : ℕ) : Type 0 where
  pub rest : copied from to (drop i xs) i t k ≡ copied from to xs 0 0 c
  pub slots : ys ++ kept (drop i xs) ≡ kept xs
  pub copying : Copying c from to k i t

module _ (c : Card) (xs : List Slot) (from to n : ℕ) (can : CanCopy c (length xs) from to n) where
  pub copied_none : (ys : List Slot) (t : ℕ) → ys ≡ [] → t ≡ 0 → CopiedTo c xs from to 0 c ys t
  copied_none ys t e z =
      record {
        rest = ap (λ (m : ℕ). copied from to xs 0 m c) z;
        slots = ap (λ (zs : List Slot). zs ++ kept xs) e;
        copying = subst (Copying c from to c 0) (sym z) (copying_none c from to can.sound can.from_in can.to_in can.blank);
      }

  module _ (i : ℕ) (k : Card) (ys : List Slot) (t : ℕ) (h : i < length xs) (r : CopiedTo c xs from to i k ys t) where
    pub copied_dead : get_or xs i dead ≡ dead → CopiedTo c xs from to (i + 1) k ys t
    unfolding copied kept
    copied_dead e =
        let d : drop i xs ≡ dead ∷ drop (i + 1) xs = drop_more xs i dead h ∙ ap (λ (x : Slot). x ∷ drop (i + 1) xs) e in
        record {
          rest = sym (ap (λ (zs : List Slot). copied from to zs i t k) d) ∙ r.rest;
          slots = sym (ap (λ (zs : List Slot). ys ++ kept zs) d) ∙ r.slots;
          copying = copying_dead c from to k i t r.copying;
        }

    pub copied_live :
        (a b : ℕ) (x : List ℕ) (k' : Card) (ys' : List Slot) (t' : ℕ) → get_or xs i dead ≡ live a b → x ≡ page_at k from i →
        k' ≡ programmed k to t x → ys' ≡ ys ++ (live a b ∷ []) → t' ≡ t + 1 → CopiedTo c xs from to (i + 1) k' ys' t'
    unfolding copied kept
    copied_live a b x k' ys' t' e f g p q =
        let d : drop i xs ≡ live a b ∷ drop (i + 1) xs = drop_more xs i dead h ∙ ap (λ (y : Slot). y ∷ drop (i + 1) xs) e in
        let is : k' ≡ programmed k to t (page_at k from i) = g ∙ ap (programmed k to t) f in
        record {
          rest =
              ap (λ (m : ℕ). copied from to (drop (i + 1) xs) (i + 1) m k') q
              ∙ ap (copied from to (drop (i + 1) xs) (i + 1) (t + 1)) is
              ∙ sym (ap (λ (zs : List Slot). copied from to zs i t k) d) ∙ r.rest;
          slots =
              ap (λ (zs : List Slot). zs ++ kept (drop (i + 1) xs)) p
              ∙ append_assoc ys (live a b ∷ []) (kept (drop (i + 1) xs))
              ∙ sym (ap (λ (zs : List Slot). ys ++ kept zs) d) ∙ r.slots;
          copying =
              rw (is, q) (copying_live c from to k i t r.copying (omega (arith, can.short)));
        }

-- all of them
pub copied_all :
    (c : Card) (xs : List Slot) (from to i : ℕ) (k : Card) (ys : List Slot) (t : ℕ) → CopiedTo c xs from to i k ys t → length xs ≤ i →
    (ys ≡ kept xs) × (k ≡ copied from to xs 0 0 c)
unfolding copied kept
copied_all c xs from to i k ys t r h =
    let d : drop i xs ≡ [] = drop_all i xs h in (
      sym (append-nil ys) ∙ sym (ap (λ (zs : List Slot). ys ++ kept zs) d) ∙ r.slots,
      sym (ap (λ (zs : List Slot). copied from to zs i t k) d) ∙ r.rest,
    )

-- the used slots, as a loop goes over them and as the rules see them
module _ (b : RegionBlock) (xs : List declared.Slot) (are : xs ≡ take b.used b.slots) where
  pub used_length : length (slots_of b) ≡ length xs
  used_length = length-map (take b.used b.slots) slot_of ∙ sym (ap length are)

  pub used_slot : (i : ℕ) (d x : declared.Slot) → i < length xs → get_or xs i d ≡ x → get_or (slots_of b) i dead ≡ slot_of x
  used_slot i d x h e =
      ap (λ (t : List declared.Slot). get_or (map slot_of t) i dead) (sym are) ∙ get_or-map slot_of xs i d dead h ∙ ap slot_of e

-- the copies can be made, as the rules count the slots
pub can_copy_slots :
    (b : RegionBlock) (c : Card) (from to n : ℕ) → CanCopy c b.used from to n → CanCopy c (length (slots_of b)) from to n
can_copy_slots b c from to n can =
    record {
      sound = can.sound;
      from_in = can.from_in;
      to_in = can.to_in;
      blank = can.blank;
      short = omega (arith, can.short, slots_length b);
      bytes = can.bytes;
    }
