-- What reads and writes of the tables are to the rules' maps.
use Rattle.std.proofs.Common.{◌≡◌, ℕ, ◌-◌, ◌<◌, ◌≤◌, List, [], map, length, get_or, take, set, replicate, sym, ap, ◌∙◌, ap₂, arith}
use lib.LanesLaws.{map-replicate}
use Rattle.std.proofs.lemmas.List.{map-set, get_or-map, get_or-take, length-map, length-take-le, take-replicate}
use Rattle.flash.specs.Meaning.{Card}
use Rattle.rules.specs.declared.plan.Plan.{Plan}
use Rattle.rules.specs.declared.pages.PageSet.{PageSet}
use Rattle.rules.specs.State as rules
use Rattle.rules.specs.Ready.{Orderly}
use Rattle.rules.proofs.OrderlyLaws.{orderly_empty}
use Rattle.store.specs.declared.slot.Slot.{Slot}
use Rattle.store.specs.declared.slot.RegionBlock.{RegionBlock}
use Rattle.store.specs.View.{slot_of, slots_of, table_of, sets_of}
use Rattle.store.proofs.SlotLaws.{take_set_in}

-- ---- states

-- the state with these maps
abbrev pub state_by : Plan → ℕ → ℕ → Card → List ℕ → List (List rules.Slot) → rules.State
state_by p n res c sets table = record { plan = p; pages = n; card = c; sets = sets; table = table; reserve = res }

pub same_maps :
    (p : Plan) (n res : ℕ) (c : Card) (sets sets' : List ℕ) (t t' : List (List rules.Slot)) → sets ≡ sets' → t ≡ t' →
    state_by p n res c sets t ≡ state_by p n res c sets' t'
same_maps p n res c sets sets' t t' e f = ap₂ (state_by p n res c) e f

-- ---- the page map

-- the used slots of a block that was read, as the rules see them
pub read_row :
    (t : List RegionBlock) (r : ℕ) (k : RegionBlock) (xs : List Slot) → r < length t → k ≡ get_or t r k → xs ≡ take k.used k.slots →
    get_or (map slots_of t) r [] ≡ map slot_of xs
read_row t r k xs h is used = get_or-map slots_of t r k [] h ∙ ap slots_of (sym is) ∙ ap (map slot_of) (sym used)

module _ (p : Plan) (t : List RegionBlock) where
  pub table_length : p.region ≤ length t → length (table_of p t) ≡ p.region
  table_length l = length-map (take p.region t) slots_of ∙ length-take-le p.region t l

  pub table_at : (r : ℕ) (z : RegionBlock) → r < p.region → p.region ≤ length t → get_or (table_of p t) r [] ≡ slots_of (get_or t r z)
  table_at r z h l =
      let n = length-take-le p.region t l in
      get_or-map slots_of (take p.region t) r z [] (omega arith) ∙ ap slots_of (get_or-take p.region t r z h)

  pub table_set : (r : ℕ) (k : RegionBlock) → table_of p (set t r k) ≡ set (table_of p t) r (slots_of k)
  table_set r k = ap (map slots_of) (take_set_in p.region r t k) ∙ map-set slots_of (take p.region t) r k

-- ---- the block map

-- the number of a set
abbrev pub number_of : PageSet → ℕ
number_of s = s.0

module _ (p : Plan) (sets : List PageSet) where
  pub set_at : (d : ℕ) (z : PageSet) → d < p.data → p.data ≤ length sets → get_or (sets_of p sets) d 0 ≡ (get_or sets d z).0
  set_at d z h l =
      let n = length-take-le p.data sets l in
      get_or-map number_of (take p.data sets) d z 0 (omega arith) ∙ ap number_of (get_or-take p.data sets d z h)

  pub sets_set : (d : ℕ) (s : PageSet) → sets_of p (set sets d s) ≡ set (sets_of p sets) d s.0
  sets_set d s = ap (map number_of) (take_set_in p.data d sets s) ∙ map-set number_of (take p.data sets) d s

-- ---- maps without pages

module _ (p : Plan) (e : RegionBlock) (blank : slots_of e ≡ []) where
  pub empty_sets : p.data ≤ 128 → sets_of p (replicate 128 (record { 0 = 0 })) ≡ replicate p.data 0
  empty_sets h = ap (map number_of) (take-replicate p.data 128 (record { 0 = 0 }) h) ∙ map-replicate number_of p.data (record { 0 = 0 })

  pub empty_table : p.region ≤ 16 → table_of p (replicate 16 e) ≡ replicate p.region []
  empty_table h =
      ap (map slots_of) (take-replicate p.region 16 e h)
      ∙ map-replicate slots_of p.region e
      ∙ ap (replicate p.region) blank

  pub orderly_blank :
      (n : ℕ) → p.data ≤ 128 → 2 ≤ p.region → p.region ≤ 16 →
      Orderly p n (sets_of p (replicate 128 (record { 0 = 0 }))) (table_of p (replicate 16 e)) (p.region - 1)
  orderly_blank n a b h = rw (empty_sets a, empty_table h) (orderly_empty p n b)
