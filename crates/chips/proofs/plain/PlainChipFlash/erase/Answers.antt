use Rattle.std.proofs.Common.{◌∙◌, length-set}
use mir.Facts.{Fits-bits}
use Rattle.flash.proofs.RefusalLaws.{erase_as, erase_accepted}
use Rattle.chips.proofs.Cards.{refused}
use Rattle.chips.proofs.PlainLaws.{plain_geometry, plain_can_erase, plain_clear, plain_clear_end, plain_below}
use Rattle.chips.proofs.plain.PlainChipFlash.erase.Goals as goal

pub returns-in_err-check_erase : goal.returns-in_err-check_erase
returns-in_err-check_erase c =
    refused _ _ _ _ _ _ c.from_residual.ensures.1 (erase_as _ _ (plain_geometry _ _ _) _ _ c.entry-old.ensures.erases) c.in_err-check_erase.ensures

pub fill-requires : goal.fill-requires
fill-requires c =
    let s = c.args.self.now in
    let g = s.geometry in
    let m = s.memory.bytes.now in
    let can = plain_can_erase g m s.table _ _ c.entry-old.ensures.erases c.in_ok-check_erase.ensures in
    plain_clear_end g m s.table _ _ _ s.room can c.block_start-pages.ensures c.pages_length.ensures

pub overflow_add-self : goal.overflow_add-self
overflow_add-self c =
    let s = c.args.self.now in
    let g = s.geometry in
    let m = s.memory.bytes.now in
    let can = plain_can_erase g m s.table _ _ c.entry-old.ensures.erases c.in_ok-check_erase.ensures in
    Fits-bits 32 tt (plain_below g m s.table _ _ c.entry-old.ensures.erases s.whole can)

pub invariant_of-self : goal.invariant_of-self
invariant_of-self c =
    let s = c.args.self.now in
    let g = s.geometry in
    let m = s.memory.bytes.now in
    let can = plain_can_erase g m s.table _ _ c.entry-old.ensures.erases c.in_ok-check_erase.ensures in
    let done = plain_clear g m _ s.table s.room s.whole s.entries s.blocks_high _ _ _ _ can c.entry-old.ensures.erases c.block_start-pages.ensures c.pages_length.ensures c.fill.ensures in
    record {
      blocks_high = s.blocks_high;
      pages_high = s.pages_high;
      size_high = s.size_high;
      entries = length-set s.table _ _ ∙ s.entries;
      room = done.room;
      whole = done.whole;
    }

pub returns : goal.returns
returns c =
    let s = c.args.self.now in
    let g = s.geometry in
    let m = s.memory.bytes.now in
    let can = plain_can_erase g m s.table _ _ c.entry-old.ensures.erases c.in_ok-check_erase.ensures in
    let done = plain_clear g m _ s.table s.room s.whole s.entries s.blocks_high _ _ _ _ can c.entry-old.ensures.erases c.block_start-pages.ensures c.pages_length.ensures c.fill.ensures in
    (erase_accepted _ _ can, done.means)
