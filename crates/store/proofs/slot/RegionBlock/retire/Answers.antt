-- Each turn looks at one slot more: it dies if it is live and of the block.
use Rattle.std.proofs.Common.{◌<◌, List, map, length, take, sym, ap, ◌∙◌, arith}
use Rattle.std.proofs.lemmas.List.{set-get_or}
use Rattle.std.proofs.lemmas.Bool.{eqb-true, eqb-false}
use Rattle.rules.specs.State as rules
use Rattle.rules.specs.Moves.{retire, of_block}
use Rattle.store.specs.declared.slot.Slot.{Slot}
use Rattle.store.specs.declared.slot.Slot.TheVariants.{Dead}
use Rattle.store.specs.View.{slot_of}
use Rattle.store.proofs.SlotLaws.{turned_more, turned_first, retire_own, retire_other, retire_dead}
use Rattle.store.proofs.slot.RegionBlock.retire.Goals as goal
use Rattle.store.proofs.slot.RegionBlock.retire.Goals.{in-Live+then-eq, in-Live+else-eq, in_default}

pub loop-slot-preserved : goal.loop-slot-preserved
loop-slot-preserved c =
    let d = c.args.block.0 in
    let i = c.loop-slot.slot-index in
    let was = c.args.self.now.slots in
    let is = c.loop-slot.slot-items in
    let after : Slot → rules.Slot = λ x. retire (of_block d) (slot_of x) in
    let turn = turned_more slot_of (retire (of_block d)) i was is c.loop-slot.invariant.1 in
    let h : i < length was = omega (arith, c.args.self.now.wide, c.loop-slot-test.true) in (
      omega (arith, c.loop-slot.invariant.0),
      elim c.match-slot.branch [
        | in-Live+then-eq w ↦
            rw w.slot-items-is (turn Dead _ h (sym (ap after w.in-Live.is ∙ retire_own d _ _ (eqb-true _ _ (sym w.if-eq.ensures)))))
        | in-Live+else-eq w ↦
            rw w.slot-items-is
            (turn _ _ h (ap slot_of w.in-Live.is ∙ sym (ap after w.in-Live.is ∙ retire_other d _ _ (eqb-false _ _ (sym w.if-eq.ensures)))))
        | in_default w ↦ rw w.slot-items-is (turn _ _ h (ap slot_of w.in_default.is ∙ sym (ap after w.in_default.is ∙ retire_dead d)))
      ],
    )

-- where the count ends, the slot that was lent last is as it was
pub returns-then-left-eq0 : goal.returns-then-left-eq0
returns-then-left-eq0 c =
    let k = c.args.self.now in
    ap (λ (xs : List Slot). map slot_of (take k.used xs)) (set-get_or c.loop-slot.slot-items c.loop-slot.slot-index _)
    ∙ turned_first slot_of (retire (of_block c.args.block.0)) c.loop-slot.slot-index k.slots c.loop-slot.slot-items c.loop-slot.invariant.1 k.used
    (omega (arith, c.loop-slot.invariant.0, c.if-left-eq0.true))

pub returns-after-loop-slot : goal.returns-after-loop-slot
returns-after-loop-slot c =
    let k = c.args.self.now in
    turned_first slot_of (retire (of_block c.args.block.0)) c.loop-slot.slot-index k.slots c.loop-slot.slot-items c.loop-slot.invariant.1 k.used
    (omega (arith, k.wide, k.short, c.loop-slot-test.false))
