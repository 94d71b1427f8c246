-- The five trials of a probe, each on a flash that the one before left as it was.
use Rattle.std.proofs.Common.{◌≡◌, ℕ, [], ◌∷◌, Option, refl}
use Rattle.flash.specs.Meaning.{Card, block_count}
use Rattle.flash.specs.Refusals.{erase_refusal, read_refusal}
use Rattle.bringup.specs.Probed.{below_floor, worn_out, probed}

pub five_trials :
    (c d f : Card) (pages n z : ℕ) (o₁ o₂ o₃ o₄ o₅ : Option ℕ) → d ≡ c → f ≡ d → pages ≡ c.shape.pages → n ≡ c.shape.size → z ≡ 0 →
    o₁ ≡ erase_refusal c (block_count c) → o₂ ≡ read_refusal d 0 pages n → o₃ ≡ read_refusal d 0 0 z → o₄ ≡ below_floor d → o₅ ≡ worn_out f →
    o₁ ∷ o₂ ∷ o₃ ∷ o₄ ∷ o₅ ∷ [] ≡ probed c
five_trials c d f pages n z o₁ o₂ o₃ o₄ o₅ e i p s y h₁ h₂ h₃ h₄ h₅ = rw (h₁, h₂, h₃, h₄, h₅, i, e, p, s, y) refl
