use Rattle.std.proofs.Common.{◌<◌, length, sym, ap, ◌∙◌, arith}
use Rattle.store.specs.View.{slots_of}
use Rattle.store.proofs.SlotLaws.{slots_length}
use Rattle.store.proofs.CopyLaws.{copied_none, copied_dead, copied_live, copied_all, can_copy_slots, used_slot, used_length}
use Rattle.store.proofs.copy.copy_live.Goals as goal
use Rattle.store.proofs.copy.copy_live.Goals.{in-Live+in_ok-read+in_ok-program, in_default}

pub loop-slot-init : goal.loop-slot-init
loop-slot-init g c =
    let b = c.args.block.now in
    let can = can_copy_slots b _ _ _ _ c.requires in
    let e = c.empty-copies.ensures in
    copied_none _ (slots_of b) c.args.from.0 c.args.to.0 _ can _ _ e (sym (slots_length c.empty-copies.result) ∙ ap length e)

pub loop-slot-preserved : goal.loop-slot-preserved
loop-slot-preserved g c =
    let b = c.args.block.now in
    let i = c.loop-slot.slot in
    let k₀ = g.F.Flash.card c.args.flash.now in
    let k = g.F.Flash.card c.loop-slot.flash in
    let from = c.args.from.0 in
    let to = c.args.to.0 in
    let can = can_copy_slots b _ _ _ _ c.requires in
    let n = used_length b _ c.used_slots-entry-items.ensures in
    let h : i < length (slots_of b) = omega arith in
    let inv = c.loop-slot.invariant in
    elim c.match-entry.branch [
      | in-Live+in_ok-read+in_ok-program w ↦
          rw (w.flash-is, w.copies-is)
          (copied_live k₀ (slots_of b) from to _ can i k _ _ h inv _ _ w.read.new.into (g.F.Flash.card w.program.new.self) _ _
          (used_slot b _ c.used_slots-entry-items.ensures i _ _ c.loop-slot-test.true w.in-Live.is)
          w.in_ok-read.ensures.1 w.in_ok-program.ensures.1 w.append.ensures.slots w.append.ensures.used)
      | in_default w ↦
          rw (w.flash-is, w.copies-is)
          (copied_dead k₀ (slots_of b) from to _ can i k _ _ h inv (used_slot b _ c.used_slots-entry-items.ensures i _ _ c.loop-slot-test.true w.in_default.is))
    ]

pub returns : goal.returns
returns g c =
    let b = c.args.block.now in
    let n = used_length b _ c.used_slots-entry-items.ensures in
    let r = copied_all (g.F.Flash.card c.args.flash.now) (slots_of b) c.args.from.0 c.args.to.0 c.loop-slot.slot (g.F.Flash.card c.loop-slot.flash) (slots_of c.loop-slot.copies) c.loop-slot.copies.used c.loop-slot.invariant (omega (arith, c.loop-slot-test.false)) in
    (r.0, r.1)
