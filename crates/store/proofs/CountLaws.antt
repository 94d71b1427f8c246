-- Counts of slots, and that no more slots are in use than there are.
use Rattle.std.proofs.Common.{◌≡◌, ℕ, ◌+◌, ◌<◌, ◌≤◌, ◌^◌, List, map, length, get_or, take, sum_by, ap, ◌∙◌, arith}
use Rattle.std.proofs.lemmas.List.{map_more, length-take-le}
use Rattle.std.proofs.lemmas.List.Sums.{sum_by_push, sum_by-le}
use Rattle.flash.specs.Meaning.{Card}
use Rattle.rules.specs.State as rules
use Rattle.rules.specs.State.{capacity, deads, live_of, dead_of, free_of}
use Rattle.rules.proofs.Counts.{lives_deads, all_slots}
use Rattle.rules.proofs.OrderlyLaws.{orderly_used}
use Rattle.store.specs.declared.slot.Slot.{Slot}
use Rattle.store.specs.declared.slot.RegionBlock.{RegionBlock}
use Rattle.store.specs.declared.maps.Maps.{Maps}
use Rattle.store.specs.State.{state_of}
use Rattle.store.specs.View.{slot_of, slots_of, table_of, sets_of}
use Rattle.store.proofs.SlotLaws.{slots_length}
use Rattle.store.proofs.MapsLaws.{orderly, rows_in}

-- ---- the slots of one block

pub slots_more :
    (f : rules.Slot → ℕ) (xs : List Slot) (i : ℕ) (d x : Slot) → i < length xs → get_or xs i d ≡ x →
    sum_by f (map slot_of (take (i + 1) xs)) ≡ sum_by f (map slot_of (take i xs)) + f (slot_of x)
slots_more f xs i d x h e =
    ap (sum_by f) (map_more slot_of xs i d h)
    ∙ sum_by_push f (map slot_of (take i xs)) (slot_of (get_or xs i d))
    ∙ ap (λ (y : Slot). sum_by f (map slot_of (take i xs)) + f (slot_of y)) e

pub deads_le : (xs : List rules.Slot) → deads xs ≤ length xs
deads_le xs = omega (arith, lives_deads xs)

-- a block has few dead slots
pub deads_few : (k : RegionBlock) → deads (slots_of k) ≤ 64
deads_few k = omega (arith, deads_le (slots_of k), slots_length k, k.short)

-- ---- the blocks of the region

-- what at most 16 blocks tell, if each tells at most 64
pub rows_few :
    (f : RegionBlock → ℕ) (m : Maps) → ((k : RegionBlock) → f k ≤ 64) → sum_by f (take m.plan.region m.table) < 2 ^ 64
rows_few f m e =
    let xs = take m.plan.region m.table in
    let few = length-take-le m.plan.region m.table (rows_in m) in
    let most = sum_by-le f 64 xs (λ k d h. e (get_or xs k d)) in
    omega (arith, m.few_blocks)

-- ---- all slots

-- the slots in use are no more than there are
pub used_fits : (m : Maps) → sum_by length (table_of m.plan m.table) ≤ capacity m.plan m.pages
used_fits m =
    orderly_used m.plan m.pages (sets_of m.plan m.sets) (table_of m.plan m.table) m.reserve m.some_data (orderly m)

-- live, dead and free slots are all there are
pub all_counted : (m : Maps) (c : Card) → live_of (state_of m c) + dead_of (state_of m c) + free_of (state_of m c) ≡ capacity m.plan m.pages
all_counted m c = omega (arith, all_slots (table_of m.plan m.table), used_fits m)
