use Rattle.std.proofs.Common.{ℕ, List, sym, ap, ◌∙◌}
use Rattle.flash.specs.Meaning.{Block}
use Rattle.chips.specs.Image.{floor_in, count_in, header_at}
use Rattle.chips.proofs.ImageLaws.{image_here, image_absent}
use Rattle.chips.proofs.image.ImageChip.header.Goals as goal
use Rattle.chips.proofs.image.ImageChip.header.Goals.{then-block-self, else-block-self}

pub returns : goal.returns
returns c =
    let g = c.args.self.now.geometry in
    let b = c.args.block.0 in
    elim c.if-block-self.branch [
      | then-block-self w ↦
          let here = image_here _ _ _ w.if-block-self.true in
          rw w.result-is (record {
            floor = w.header_at.ensures.floor_is ∙ ap (λ (m : List ℕ). floor_in (header_at g m b)) w.bytes.ensures ∙ sym (ap (λ (y : Block). y.floor) here);
            erases = w.header_at.ensures.erases_is ∙ ap (λ (m : List ℕ). count_in (header_at g m b)) w.bytes.ensures ∙ sym (ap (λ (y : Block). y.erases) here);
          })
      | else-block-self w ↦
          let absent = image_absent _ _ _ w.if-block-self.false in
          rw w.result-is (record { floor = sym (ap (λ (y : Block). y.floor) absent); erases = sym (ap (λ (y : Block). y.erases) absent) })
    ]
