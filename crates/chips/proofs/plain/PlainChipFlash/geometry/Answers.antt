use Rattle.flash.proofs.SoundLaws.{open_sound}
use Rattle.chips.proofs.PlainLaws.{plain_geometry}
use Rattle.chips.proofs.plain.PlainChipFlash.geometry.Goals as goal

pub returns : goal.returns
returns c = record { is = plain_geometry _ _ _; sound = open_sound _ c.args.self.now.whole }
