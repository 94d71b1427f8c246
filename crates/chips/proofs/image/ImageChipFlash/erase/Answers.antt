use Rattle.std.proofs.Common.{◌+◌}
use Rattle.flash.proofs.RefusalLaws.{erase_as, erase_accepted}
use Rattle.chips.proofs.Cards.{refused, can_erase_as}
use Rattle.chips.proofs.HeaderLaws.{header_written}
use Rattle.chips.proofs.ImageFaults.{chip_whole, chip_keeps}
use Rattle.chips.proofs.ImageLaws.{image_geometry, erase_fits}
use Rattle.chips.proofs.ImageWrites.{erase_small, erase_header_fits, erase_image}
use Rattle.chips.proofs.image.ImageChipFlash.erase.Goals as goal

pub returns-in_err-check_erase : goal.returns-in_err-check_erase
returns-in_err-check_erase c =
    refused _ _ _ _ _ _ c.from_residual.ensures.1 (erase_as _ _ (image_geometry _ _) _ _ c.header-old.ensures.erases) c.in_err-check_erase.ensures

pub invariant_of-header-clause-erases_fits : goal.invariant_of-header-clause-erases_fits
invariant_of-header-clause-erases_fits c =
    let s = c.args.self.now in
    let g = s.geometry in
    let m = s.memory.bytes.now in
    let can = can_erase_as _ _ (image_geometry g m) _ _ c.header-old.ensures.erases c.in_ok-check_erase.ensures in
    erase_small g m (chip_whole g m s.whole) _ _ can c.header-old.ensures.erases

pub fill-requires : goal.fill-requires
fill-requires c =
    let s = c.args.self.now in
    let g = s.geometry in
    let m = s.memory.bytes.now in
    let can = can_erase_as _ _ (image_geometry g m) _ _ c.header-old.ensures.erases c.in_ok-check_erase.ensures in
    erase_fits g m s.room _ _ _ can c.page_start-pages.ensures c.pages_length.ensures

pub put-requires : goal.put-requires
put-requires c =
    let s = c.args.self.now in
    let g = s.geometry in
    let m = s.memory.bytes.now in
    let can = can_erase_as _ _ (image_geometry g m) _ _ c.header-old.ensures.erases c.in_ok-check_erase.ensures in
    erase_header_fits g m c.fill.new.self.bytes.now _ _ _ _ _ _ can
    c.page_start-pages.ensures c.pages_length.ensures c.block_start.ensures c.header-old.ensures.erases (header_written 0 (c.header-old.result.erases + 1) _ c.from.ensures) c.fill.ensures s.room

pub invariant_of-self : goal.invariant_of-self
invariant_of-self c =
    let s = c.args.self.now in
    let g = s.geometry in
    let m = s.memory.bytes.now in
    let can = can_erase_as _ _ (image_geometry g m) _ _ c.header-old.ensures.erases c.in_ok-check_erase.ensures in
    let image = erase_image g m c.fill.new.self.bytes.now _ _ _ _ _ _ can
    c.page_start-pages.ensures c.pages_length.ensures c.block_start.ensures c.header-old.ensures.erases (header_written 0 (c.header-old.result.erases + 1) _ c.from.ensures) c.fill.ensures
    c.put.new.self.bytes.now c.put.ensures (chip_whole g m s.whole) in
    let kept = chip_keeps g c.put.new.self.bytes.now image.whole in
    record {
      blocks_high = s.blocks_high;
      pages_high = s.pages_high;
      size_high = s.size_high;
      room = kept.room;
      whole = kept.whole;
    }

pub returns : goal.returns
returns c =
    let s = c.args.self.now in
    let g = s.geometry in
    let m = s.memory.bytes.now in
    let can = can_erase_as _ _ (image_geometry g m) _ _ c.header-old.ensures.erases c.in_ok-check_erase.ensures in
    let image = erase_image g m c.fill.new.self.bytes.now _ _ _ _ _ _ can
    c.page_start-pages.ensures c.pages_length.ensures c.block_start.ensures c.header-old.ensures.erases (header_written 0 (c.header-old.result.erases + 1) _ c.from.ensures) c.fill.ensures
    c.put.new.self.bytes.now c.put.ensures (chip_whole g m s.whole) in
    (erase_accepted _ _ can, image.means)
