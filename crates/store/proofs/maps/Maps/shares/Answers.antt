-- One slot more in each turn.
use Rattle.std.proofs.Common.{◌≡◌, ℕ, ◌+◌, ◌*◌, ◌<◌, ◌≤◌, cond, eqb, List, [], map, length, get_or, take, sum_by, sym, ap, ◌∙◌, arith}
use Rattle.std.proofs.lemmas.List.{take_all, length-map}
use Rattle.std.proofs.lemmas.List.Sums.{sum_by_more}
use Rattle.rules.specs.State as rules
use Rattle.rules.specs.State.{share_of, one_of}
use Rattle.rules.specs.declared.block.LogicalBlock.{LogicalBlock}
use Rattle.store.specs.declared.maps.Maps.{Maps}
use Rattle.store.specs.declared.slot.Slot.{Slot}
use Rattle.store.specs.declared.slot.Slot.TheVariants.{Live}
use Rattle.store.specs.declared.slot.RegionBlock.{RegionBlock}
use Rattle.store.specs.View.{slot_of, slots_of}
use Rattle.store.proofs.SlotLaws.{used_length}
use Rattle.store.proofs.TableLaws.{read_row}
use Rattle.store.proofs.MapsLaws.{slot_within}
use Rattle.store.proofs.CountLaws.{slots_more}
use Rattle.store.proofs.ShareLaws.{so_far, shares_none, shares_as, shares_more}
use Rattle.store.proofs.maps.Maps.shares.Goals as goal
use Rattle.store.proofs.maps.Maps.shares.Goals.{in-Live, in_default}

pub loop-row-init : goal.loop-row-init
loop-row-init c = shares_none

-- the owner of a live slot that was read is one of the plan's data blocks
owner_low :
    (m : Maps) (t : List RegionBlock) (r : ℕ) (k : RegionBlock) (xs : List Slot) (i : ℕ) (z : Slot) (o : LogicalBlock) (j : ℕ) →
    t ≡ take m.plan.region m.table → r < length t → k ≡ get_or t r k → xs ≡ take k.used k.slots → i < length xs → get_or xs i z ≡ Live o j →
    o.0 < 128
owner_low m t r k xs i z o j e h is used l q =
    omega (arith, (slot_within m t e r xs h (read_row t r k xs h is used) i z o j l q).0, m.few_data)

pub bounds-shares-owner : goal.bounds-shares-owner
bounds-shares-owner c =
    owner_low c.args.self.now _ c.loop-row.row-index c.row-item.result _ c.loop-slot.slot-index _ _ _ c.rows-row-items.ensures c.loop-row-test.true
    c.row-item.is c.used_slots-slot-items.ensures c.loop-slot-test.true c.in-Live.is

pub bounds-shares-owner-in-Live : goal.bounds-shares-owner-in-Live
bounds-shares-owner-in-Live c =
    owner_low c.args.self.now _ c.loop-row.row-index c.row-item.result _ c.loop-slot.slot-index _ _ _ c.rows-row-items.ensures c.loop-row-test.true
    c.row-item.is c.used_slots-slot-items.ensures c.loop-slot-test.true c.in-Live.is

pub loop-slot-preserved : goal.loop-slot-preserved
loop-slot-preserved c =
    let m = c.args.self.now in
    let r = c.loop-row.row-index in
    let i = c.loop-slot.slot-index in
    let t = take r (map slots_of c.rows-row-items.result.now) in
    let xs = c.used_slots-slot-items.result.now in
    let was = so_far t (map slot_of (take i xs)) in
    let is = so_far t (map slot_of (take (i + 1) xs)) in
    elim c.match-slot.branch [
      | in-Live w ↦
          let e = w.in-Live.owner.0 in
          let low = owner_low m _ r c.row-item.result _ i _ _ _ c.rows-row-items.ensures c.loop-row-test.true c.row-item.is c.used_slots-slot-items.ensures c.loop-slot-test.true w.in-Live.is in
          rw w.shares-is
          (shares_as _ (64 * r + i + 1) (64 * r + (i + 1)) (λ d. was d + cond (eqb e d) 1 0) is (λ d. omega (arith, slots_more (one_of d) xs i _ _ c.loop-slot-test.true w.in-Live.is)) (omega arith)
          (shares_more c.loop-slot.shares (64 * r + i) was e low c.loop-slot.invariant))
      | in_default w ↦
          rw w.shares-is
          (shares_as c.loop-slot.shares (64 * r + i) (64 * r + (i + 1)) was is (λ d. omega (arith, slots_more (one_of d) xs i _ _ c.loop-slot-test.true w.in_default.is)) (omega arith) c.loop-slot.invariant)
    ]

pub loop-row-preserved : goal.loop-row-preserved
loop-row-preserved c =
    let r = c.loop-row.row-index in
    let i = c.loop-slot.slot-index in
    let k = c.row-item.result in
    let t = map slots_of c.rows-row-items.result.now in
    let xs = c.used_slots-slot-items.result.now in
    let all : map slot_of (take i xs) ≡ get_or t r [] =
    ap (map slot_of) (take_all i xs c.loop-slot-test.false)
    ∙ sym (read_row _ r k _ c.loop-row-test.true c.row-item.is c.used_slots-slot-items.ensures) in
    let few : length xs ≤ 64 = omega (arith, ap length c.used_slots-slot-items.ensures, used_length k, k.short) in
    let h : r < length t = omega (arith, length-map c.rows-row-items.result.now slots_of, c.loop-row-test.true) in
    shares_as c.loop-slot.shares (64 * r + i) (64 * (r + 1)) (so_far (take r t) (map slot_of (take i xs))) (share_of (take (r + 1) t))
    (λ d.
    ap (λ (ys : List rules.Slot). so_far (take r t) ys d) all
    ∙ sym (sum_by_more (λ ys. sum_by (one_of d) ys) t r [] h))
    (omega arith) c.loop-slot.invariant

pub returns : goal.returns
returns c =
    let t = map slots_of c.rows-row-items.result.now in
    let end : length t ≤ c.loop-row.row-index = omega (arith, length-map c.rows-row-items.result.now slots_of, c.loop-row-test.false) in
    record {
      wide = c.loop-row.invariant.wide;
      each = λ d l.
          c.loop-row.invariant.each d l
          ∙ ap (λ (ys : List (List rules.Slot)). share_of ys d) (take_all c.loop-row.row-index t end ∙ ap (map slots_of) c.rows-row-items.ensures);
    }
