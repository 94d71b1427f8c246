use Rattle.chips.proofs.ImageFaults.{chip_whole}
use Rattle.chips.proofs.ImageLaws.{image_geometry}
use Rattle.chips.proofs.image.ImageChipFlash.geometry.Goals as goal

pub returns : goal.returns
returns c = record { is = image_geometry _ _; sound = (chip_whole _ _ c.args.self.now.whole).sound }
