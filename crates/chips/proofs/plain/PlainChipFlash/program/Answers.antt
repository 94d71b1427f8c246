use Rattle.std.proofs.Common.{◌∙◌, length-set}
use Rattle.flash.proofs.RefusalLaws.{program_as, program_accepted}
use Rattle.chips.proofs.Cards.{refused}
use Rattle.chips.proofs.PlainLaws.{plain_geometry, plain_can_program, plain_put, plain_put_end}
use Rattle.chips.proofs.plain.PlainChipFlash.program.Goals as goal

pub returns-in_err-check_program : goal.returns-in_err-check_program
returns-in_err-check_program c =
    refused _ _ _ _ _ _ c.from_residual.ensures.1 (program_as _ _ (plain_geometry _ _ _) _ _ _ _ c.entry-old.ensures.floor) c.in_err-check_program.ensures

pub put-requires : goal.put-requires
put-requires c =
    let s = c.args.self.now in
    let g = s.geometry in
    let m = s.memory.bytes.now in
    let can = plain_can_program g m s.table _ _ _ _ c.entry-old.ensures.floor c.in_ok-check_program.ensures in
    plain_put_end g m s.table _ _ _ _ s.room can c.page_start.ensures

pub invariant_of-self : goal.invariant_of-self
invariant_of-self c =
    let s = c.args.self.now in
    let g = s.geometry in
    let m = s.memory.bytes.now in
    let can = plain_can_program g m s.table _ _ _ _ c.entry-old.ensures.floor c.in_ok-check_program.ensures in
    let done = plain_put g m _ s.table s.room s.whole s.entries s.blocks_high _ _ _ _ _ can c.entry-old.ensures.erases c.page_start.ensures c.put.ensures in
    record {
      blocks_high = s.blocks_high;
      pages_high = s.pages_high;
      size_high = s.size_high;
      entries = length-set s.table _ _ ∙ s.entries;
      room = done.room;
      whole = done.whole;
    }

pub returns : goal.returns
returns c =
    let s = c.args.self.now in
    let g = s.geometry in
    let m = s.memory.bytes.now in
    let can = plain_can_program g m s.table _ _ _ _ c.entry-old.ensures.floor c.in_ok-check_program.ensures in
    let done = plain_put g m _ s.table s.room s.whole s.entries s.blocks_high _ _ _ _ _ can c.entry-old.ensures.erases c.page_start.ensures c.put.ensures in
    (program_accepted _ _ _ _ can, done.means)
