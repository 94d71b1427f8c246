use Rattle.std.proofs.Common.{◌≡◌, ℕ, List, None, Ok, Err, Result, sym}
use Rattle.std.specs.Result.{IfOk, result_err, result_unwrap_or}
use Rattle.flash.specs.declared.geometry.Geometry.{Geometry}
use Rattle.flash.specs.declared.making.MakingFault.{MakingFault}
use Rattle.chips.specs.declared.layout.Layout.{Layout}
use Rattle.chips.specs.Image.{image_card, image_fault, attached_card}
use Rattle.chips.proofs.ImageFaults.{no_geometry, none_whole, chip_keeps, attached_none, attached_whole}
use Rattle.chips.proofs.image.ImageChip.attach.Goals as goal

-- the measures that are taken up, or those of the flash without blocks
module _ (g : Geometry) (m : List ℕ) (d : Layout 4) (none : d.geometry ≡ no_geometry) where
  taken_whole :
      (r : Result (Layout 4) MakingFault) → result_err r ≡ image_fault g m → IfOk r (λ l. l.geometry ≡ g) →
      image_fault (result_unwrap_or r d).geometry m ≡ None
  taken_whole (Ok l) e same = rw same (sym e)
  taken_whole (Err fault) e same = rw none (none_whole m)

  taken_card :
      (r : Result (Layout 4) MakingFault) → result_err r ≡ image_fault g m → IfOk r (λ l. l.geometry ≡ g) →
      image_card (result_unwrap_or r d).geometry m ≡ attached_card (image_fault g m) g m
  taken_card (Ok l) e same = rw same (attached_whole g m e)
  taken_card (Err fault) e same = rw none (attached_none g m fault e)

pub invariant_of-result : goal.invariant_of-result
invariant_of-result c =
    let m = c.args.memory.now in
    let whole = taken_whole c.args.geometry m c.without_blocks-none.result c.without_blocks-none.ensures c.of_image.result c.of_image.ensures.fault c.of_image.ensures.measures in
    let kept = chip_keeps c.unwrap_or-layout.result.geometry m (rw c.unwrap_or-layout.ensures whole) in
    let layout = c.unwrap_or-layout.result in
    record {
      blocks_high = layout.blocks_high;
      pages_high = layout.pages_high;
      size_high = layout.size_high;
      room = kept.room;
      whole = kept.whole;
    }

pub returns-clause-shows : goal.returns-clause-shows
returns-clause-shows c =
    rw c.unwrap_or-layout.ensures
    (taken_card c.args.geometry c.args.memory.now c.without_blocks-none.result c.without_blocks-none.ensures c.of_image.result c.of_image.ensures.fault c.of_image.ensures.measures)
