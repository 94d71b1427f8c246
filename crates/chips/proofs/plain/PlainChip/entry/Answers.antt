use Rattle.std.proofs.Common.{sym, ap, ◌∙◌}
use Rattle.flash.specs.Meaning.{Block}
use Rattle.chips.proofs.PlainLaws.{plain_here, plain_absent}
use Rattle.chips.proofs.plain.PlainChip.entry.Goals as goal

pub returns-then-block-self : goal.returns-then-block-self
returns-then-block-self c =
    let here = plain_here _ _ _ _ c.if-block-self.true in
    record { floor = sym (ap (λ (y : Block). y.floor) here); erases = sym (ap (λ (y : Block). y.erases) here) }

pub returns-else-block-self : goal.returns-else-block-self
returns-else-block-self c =
    let absent = plain_absent _ _ _ _ c.if-block-self.false in
    record {
      floor = c.default.ensures.0 ∙ sym (ap (λ (y : Block). y.floor) absent);
      erases = c.default.ensures.1 ∙ sym (ap (λ (y : Block). y.erases) absent);
    }
