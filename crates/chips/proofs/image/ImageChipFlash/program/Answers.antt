use Rattle.flash.proofs.RefusalLaws.{program_as, program_accepted}
use Rattle.chips.proofs.Cards.{refused, can_program_as}
use Rattle.chips.proofs.HeaderLaws.{header_written}
use Rattle.chips.proofs.ImageFaults.{chip_whole, chip_keeps}
use Rattle.chips.proofs.ImageLaws.{image_geometry, program_fits}
use Rattle.chips.proofs.ImageWrites.{program_image}
use Rattle.chips.proofs.image.ImageChipFlash.program.Goals as goal

pub returns-in_err-check_program : goal.returns-in_err-check_program
returns-in_err-check_program c =
    refused _ _ _ _ _ _ c.from_residual.ensures.1 (program_as _ _ (image_geometry _ _) _ _ _ _ c.header-old.ensures.floor) c.in_err-check_program.ensures

pub put-requires : goal.put-requires
put-requires c =
    let s = c.args.self.now in
    let g = s.geometry in
    let m = s.memory.bytes.now in
    let can = can_program_as _ _ (image_geometry g m) _ _ _ _ c.header-old.ensures.floor c.in_ok-check_program.ensures in
    program_fits g m s.room _ _ _ _ can c.page_start.ensures

pub invariant_of-self : goal.invariant_of-self
invariant_of-self c =
    let s = c.args.self.now in
    let g = s.geometry in
    let m = s.memory.bytes.now in
    let can = can_program_as _ _ (image_geometry g m) _ _ _ _ c.header-old.ensures.floor c.in_ok-check_program.ensures in
    let image = program_image g m c.put.new.self.bytes.now _ _ _ _ _ _ _ can
    c.page_start.ensures c.block_start.ensures c.header-old.ensures.erases (header_written _ _ _ c.from.ensures) c.put.ensures
    c.put-2.new.self.bytes.now c.put-2.ensures (chip_whole g m s.whole) in
    let kept = chip_keeps g c.put-2.new.self.bytes.now image.whole in
    record {
      blocks_high = s.blocks_high;
      pages_high = s.pages_high;
      size_high = s.size_high;
      room = kept.room;
      whole = kept.whole;
    }

pub returns : goal.returns
returns c =
    let s = c.args.self.now in
    let g = s.geometry in
    let m = s.memory.bytes.now in
    let can = can_program_as _ _ (image_geometry g m) _ _ _ _ c.header-old.ensures.floor c.in_ok-check_program.ensures in
    let image = program_image g m c.put.new.self.bytes.now _ _ _ _ _ _ _ can
    c.page_start.ensures c.block_start.ensures c.header-old.ensures.erases (header_written _ _ _ c.from.ensures) c.put.ensures
    c.put-2.new.self.bytes.now c.put-2.ensures (chip_whole g m s.whole) in
    (program_accepted _ _ _ _ can, image.means)
