use Rattle.chips.proofs.ImageFaults.{chip_again}
use Rattle.chips.proofs.image.ImageChip.release.Goals as goal

pub returns-clause-again : goal.returns-clause-again
returns-clause-again c = chip_again _ _ _ c.args.self.whole c.into_bytes.ensures
