use Rattle.std.proofs.Common.{ap, ◌∙◌}
use Rattle.chips.specs.Image.{four_bytes}
use Rattle.chips.proofs.HeaderLaws.{header_shifted}
use Rattle.chips.proofs.header.ArrayU8HEADERLENGTHFromHeader.from.Goals as goal

pub returns : goal.returns
returns c =
    let h = c.args.header in
    c.to_be_bytes.ensures ∙ ap four_bytes (header_shifted h.floor h.erases h.floor_fits h.erases_fits h.spare h.spare_fits)
