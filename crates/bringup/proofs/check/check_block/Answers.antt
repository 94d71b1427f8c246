-- An erased block is blank, and takes the pattern.
use Rattle.bringup.proofs.CheckLaws.{erased_ready, erased_first}
use Rattle.bringup.proofs.check.check_block.Goals as goal

pub pattern_block-requires-in-ErasedFirst : goal.pattern_block-requires-in-ErasedFirst
pattern_block-requires-in-ErasedFirst g c =
    let done = c.in_ok-erase-in-ErasedFirst.ensures in
    let ready = erased_ready (g.F.Flash.card c.args.flash.now) (g.F.Flash.card c.erase.new.self) c.args.block.0 done.0 done.1 in
    record { inside = ready.0; blank = ready.1 }

pub returns-in_ok-erase-in-ErasedFirst-clause-leaves : goal.returns-in_ok-erase-in-ErasedFirst-clause-leaves
returns-in_ok-erase-in-ErasedFirst-clause-leaves g c =
    let done = c.in_ok-erase-in-ErasedFirst.ensures in
    erased_first (g.F.Flash.card c.args.flash.now) (g.F.Flash.card c.erase.new.self) c.args.block.0 done.0 done.1 c.args.outcome _
    c.in-ErasedFirst.is c.pattern_block-in-ErasedFirst.ensures.leaves
