use Rattle.std.proofs.Common.{◌≡◌, length, replicate, None, sym, refl, ap, ◌∙◌, arith}
use Rattle.flash.specs.declared.geometry.Geometry.{Geometry}
use Rattle.chips.specs.Plain.{plain_fault, made_card}
use Rattle.chips.proofs.PlainLaws.{plain_none, default_unused, plain_fitting, fault_card, plain_new}
use Rattle.chips.proofs.plain.PlainChip.new.Goals as goal

pub invariant_of-result : goal.invariant_of-result
invariant_of-result c =
    let none = plain_none _ c.args.memory.now (replicate 256 c.default-table.result) refl in
    record {
      blocks_high = omega arith;
      pages_high = omega arith;
      size_high = omega arith;
      entries = refl;
      room = none.room;
      whole = none.whole;
    }

pub returns-in_default-clause-shows : goal.returns-in_default-clause-shows
returns-in_default-clause-shows c =
    let g = c.args.geometry in
    let m = c.args.memory.now in
    let none = plain_none _ m (replicate 256 c.default-table.result) refl in
    none.means ∙ fault_card c.in_default.field-0 g (length m) (c.in_default.ensures.fault ∙ plain_fitting g (length m))

pub invariant_of-result-2 : goal.invariant_of-result-2
invariant_of-result-2 c =
    let g = c.in-Ok.layout.geometry in
    let m = c.args.memory.now in
    let d = c.default-table.ensures in
    let table = ap (replicate 256) (default_unused c.default-table.result d.0 d.1) in
    let h : plain_fault g (length m) ≡ None = rw c.in-Ok.ensures.measures (sym (c.in-Ok.ensures.fault ∙ plain_fitting c.args.geometry (length m))) in
    let made = plain_new g m c.fill.new.self.bytes.now _ _ table h c.length-length.ensures c.fill.ensures in
    let layout = c.in-Ok.layout in
    record {
      blocks_high = layout.blocks_high;
      pages_high = layout.pages_high;
      size_high = layout.size_high;
      entries = refl;
      room = made.room;
      whole = made.whole;
    }

pub returns-clause-shows : goal.returns-clause-shows
returns-clause-shows c =
    let g = c.in-Ok.layout.geometry in
    let m = c.args.memory.now in
    let d = c.default-table.ensures in
    let table = ap (replicate 256) (default_unused c.default-table.result d.0 d.1) in
    let h : plain_fault g (length m) ≡ None = rw c.in-Ok.ensures.measures (sym (c.in-Ok.ensures.fault ∙ plain_fitting c.args.geometry (length m))) in
    let made = plain_new g m c.fill.new.self.bytes.now _ _ table h c.length-length.ensures c.fill.ensures in
    made.means ∙ ap (λ (k : Geometry). made_card (plain_fault k (length m)) k) c.in-Ok.ensures.measures
