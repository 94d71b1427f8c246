use Rattle.std.proofs.Common.{sym}
use Rattle.chips.proofs.Cards.{read_through}
use Rattle.chips.proofs.ImageLaws.{image_geometry, image_page_lem}
use Rattle.chips.proofs.image.ImageChipFlash.read.Goals as goal

pub returns : goal.returns
returns c =
    let g = c.args.self.now.geometry in
    let m = c.args.self.now.memory.bytes.now in
    read_through _ g _ _ _ _ _ _ _ (image_geometry g m) (λ h k. sym (image_page_lem g m _ _ h k)) c.read_page.ensures
