-- What the ghost fields of the maps tell of their rows and sets.
use Rattle.std.proofs.Common.{◌≡◌, ℕ, ◌+◌, ◌^◌, ◌<◌, ◌≤◌, List, [], map, length, get_or, take, set, sym, ap, ◌∙◌, subst, arith}
use Rattle.std.proofs.lemmas.List.{length-map, length-take-le, get_or-map}
use Rattle.std.proofs.lemmas.List.Elements.{All-get_or}
use Rattle.rules.specs.declared.block.LogicalBlock.{LogicalBlock}
use Rattle.rules.specs.declared.pages.PageSet.{PageSet}
use Rattle.rules.specs.State as rules
use Rattle.rules.specs.State.{dead}
use Rattle.rules.specs.Ready.{Within, Filed, Orderly}
use Rattle.rules.proofs.OrderlyLaws.{in_set, Lesser, open_orderly, orderly_row, orderly_set}
use Rattle.rules.proofs.Places.{named_in}
use Rattle.store.specs.declared.slot.Slot.{Slot}
use Rattle.store.specs.declared.slot.Slot.TheVariants.{Live}
use Rattle.store.specs.declared.slot.RegionBlock.{RegionBlock}
use Rattle.store.specs.declared.maps.Maps.{Maps}
use Rattle.store.specs.View.{slot_of, slots_of, table_of, sets_of}
use Rattle.store.proofs.SlotLaws.{slots_length}
use Rattle.store.proofs.TableLaws.{table_length, table_at, table_set, set_at, sets_set}

module _ (m : Maps) where
  -- out of the truncation
  pub orderly : Orderly m.plan m.pages (sets_of m.plan m.sets) (table_of m.plan m.table) m.reserve
  orderly = open_orderly m.plan m.pages (sets_of m.plan m.sets) (table_of m.plan m.table) m.reserve m.orderly

  -- ---- rows

  pub rows_in : m.plan.region ≤ length m.table
  rows_in = omega (arith, m.wide_table, m.few_blocks)

  pub rows : length (table_of m.plan m.table) ≡ m.plan.region
  rows = table_length m.plan m.table rows_in

  pub row_at_lem : (r : ℕ) (z : RegionBlock) → r < m.plan.region → get_or (table_of m.plan m.table) r [] ≡ slots_of (get_or m.table r z)
  row_at_lem r z h = table_at m.plan m.table r z h rows_in

  -- a row has as many slots as it uses
  pub row_length : (r : ℕ) (z : RegionBlock) → r < m.plan.region → length (get_or (table_of m.plan m.table) r []) ≡ (get_or m.table r z).used
  row_length r z h = ap length (row_at_lem r z h) ∙ slots_length (get_or m.table r z)

  pub row_filed : (r : ℕ) → r < m.plan.region → Filed m.plan.data m.pages (get_or (table_of m.plan m.table) r [])
  row_filed r h =
      All-get_or (Filed m.plan.data m.pages) (table_of m.plan m.table) r [] (omega (arith, rows)) orderly.filed

  -- the blocks of the region, as they are read
  module _ (t : List RegionBlock) (of_region : t ≡ take m.plan.region m.table) where
    pub blocks : length t ≡ m.plan.region
    blocks = ap length of_region ∙ length-take-le m.plan.region m.table rows_in

    -- their live slots are pages of the plan
    pub slot_within :
        (r : ℕ) (xs : List Slot) → r < length t → get_or (map slots_of t) r [] ≡ map slot_of xs →
        (i : ℕ) (z : Slot) (o : LogicalBlock) (j : ℕ) → i < length xs → get_or xs i z ≡ Live o j → (o.0 < m.plan.data) × (j < m.pages)
    slot_within r xs h row i z o j l e =
        let W : rules.Slot → Type 0 = Within m.plan.data m.pages in
        let ys = get_or (table_of m.plan m.table) r [] in
        let same : ys ≡ map slot_of xs = ap (λ (x : List RegionBlock). get_or (map slots_of x) r []) (sym of_region) ∙ row in
        let len : length ys ≡ length xs = ap length same ∙ length-map xs slot_of in
        subst W (ap (λ (zs : List rules.Slot). get_or zs i dead) same ∙ get_or-map slot_of xs i z dead l ∙ ap slot_of e)
        (All-get_or W ys i dead (omega arith) (row_filed r (omega (arith, blocks))).within)

  -- ---- sets

  pub set_in_maps : (d : ℕ) (z : PageSet) → d < m.plan.data → get_or (sets_of m.plan m.sets) d 0 ≡ (get_or m.sets d z).0
  set_in_maps d z h = set_at m.plan m.sets d z h (omega (arith, m.wide_sets, m.few_data))

  pub set_fits : (d : ℕ) → d < m.plan.data → get_or (sets_of m.plan m.sets) d 0 < 2 ^ m.pages
  set_fits d h =
      All-get_or (λ (g : ℕ). g < 2 ^ m.pages) (sets_of m.plan m.sets) d 0 (omega (arith, orderly.sets_are)) orderly.sets_fit

  -- ---- writes

  -- a row with as many slots, which names no page more often
  pub orderly_with_row :
      (r : ℕ) (b : RegionBlock) → r < m.plan.region →
      Lesser m.plan.data m.pages (get_or (table_of m.plan m.table) r []) (slots_of b) →
      Orderly m.plan m.pages (sets_of m.plan m.sets) (table_of m.plan (set m.table r b)) m.reserve
  orderly_with_row r b h k =
      rw (table_set m.plan m.table r b)
      (orderly_row m.plan m.pages (sets_of m.plan m.sets) (table_of m.plan m.table) m.reserve r (slots_of b) (omega (arith, rows)) k orderly)

  -- a set of pages of the plan, of which no slot names one
  pub orderly_with_set :
      (d : ℕ) (s : PageSet) → s.0 < 2 ^ m.pages → ((i : ℕ) → in_set s.0 i + named_in d i (table_of m.plan m.table) ≤ 1) →
      Orderly m.plan m.pages (sets_of m.plan (set m.sets d s)) (table_of m.plan m.table) m.reserve
  orderly_with_set d s h k =
      rw (sets_set m.plan m.sets d s)
      (orderly_set m.plan m.pages (sets_of m.plan m.sets) (table_of m.plan m.table) m.reserve d s.0 h k orderly)
