use Rattle.chips.proofs.Cards.{read_through}
use Rattle.chips.proofs.PlainLaws.{plain_geometry, plain_found}
use Rattle.chips.proofs.plain.PlainChipFlash.read.Goals as goal

pub returns : goal.returns
returns c =
    let s = c.args.self.now in
    let g = s.geometry in
    let m = s.memory.bytes.now in
    read_through _ g _ _ _ _ _ _ _ (plain_geometry g m s.table) (plain_found g m s.table _ _) c.read_page.ensures
