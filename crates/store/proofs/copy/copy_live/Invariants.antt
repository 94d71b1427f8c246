use Rattle.store.specs.View.{slots_of}
use Rattle.store.proofs.CopyLaws.{CopiedTo}
use Rattle.store.proofs.copy.copy_live.Given as goal

abbrev pub invariant-loop-slot : goal.invariant-loop-slot
invariant-loop-slot g l =
    CopiedTo (g.F.Flash.card l.initial.flash) (slots_of l.block) l.from.0 l.to.0 l.slot (g.F.Flash.card l.flash) (slots_of l.copies) l.copies.used
