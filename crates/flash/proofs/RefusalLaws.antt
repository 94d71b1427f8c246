-- What an accepted call tells, and calls on one card that are answered as calls on another.
use Rattle.std.proofs.Common.{◌≡◌, ℕ, ◌<◌, ◌≤◌, None, Ok, Err, Option, Result, refl, ap, ◌∙◌, arith}
use Rattle.std.proofs.lemmas.Bool.Decides.{nat_tests}
use Rattle.flash.specs.declared.refusal.Refusal.{Refusal}
use Rattle.flash.specs.declared.geometry.Geometry.{Geometry}
use Rattle.flash.specs.Meaning.{Card, block_count, floor_at, erase_count_at, geometry_of}
use Rattle.flash.specs.Refusals.{Outcome, why_not_read, why_not_program, why_not_erase, read_refusal, program_refusal, erase_refusal}

-- what is known once a read is accepted
pub record CanRead (c : Card) (b p n : ℕ) : Type 0 where
  pub block : b < block_count c
  pub page : p < c.shape.pages
  pub bytes : n ≡ c.shape.size

-- what is known once a program is accepted
pub record CanProgram (c : Card) (b p n : ℕ) : Type 0 where
  pub block : b < block_count c
  pub page : p < c.shape.pages
  pub bytes : n ≡ c.shape.size
  pub above : floor_at c b ≤ p

-- what is known once an erase is accepted
pub record CanErase (c : Card) (b : ℕ) : Type 0 where
  pub block : b < block_count c
  pub below : erase_count_at c b < c.shape.endurance

module _ (c : Card) (b p n : ℕ) where
  pub can_read : read_refusal c b p n ≡ None → CanRead c b p n
  can_read e = record { block = grind (arith, nat_tests); page = grind (arith, nat_tests); bytes = grind (arith, nat_tests) }

  pub read_accepted : CanRead c b p n → read_refusal c b p n ≡ None
  read_accepted can = grind (arith, nat_tests)

  pub can_program : program_refusal c b p n ≡ None → CanProgram c b p n
  can_program e =
      record { block = grind (arith, nat_tests); page = grind (arith, nat_tests); bytes = grind (arith, nat_tests); above = grind (arith, nat_tests) }

  pub program_accepted : CanProgram c b p n → program_refusal c b p n ≡ None
  program_accepted can = grind (arith, nat_tests)

module _ (c : Card) (b : ℕ) where
  pub can_erase : erase_refusal c b ≡ None → CanErase c b
  can_erase e = record { block = grind (arith, nat_tests); below = grind (arith, nat_tests) }

  pub erase_accepted : CanErase c b → erase_refusal c b ≡ None
  erase_accepted can = grind (arith, nat_tests)

-- the tests of a chip that knows the card's measures, and the block's floor or count, are the card's
module _ (c : Card) (g : Geometry) (same : g ≡ geometry_of c) (b : ℕ) where
  pub read_as : (p n : ℕ) → read_refusal c b p n ≡ why_not_read g b p n
  read_as p n = rw same refl

  pub program_as : (p n f : ℕ) → f ≡ floor_at c b → program_refusal c b p n ≡ why_not_program g f b p n
  program_as p n f e = rw (same, e) refl

  pub erase_as : (k : ℕ) → k ≡ erase_count_at c b → erase_refusal c b ≡ why_not_erase g k b
  erase_as k e = rw (same, e) refl

-- an outcome on a part, seen as an outcome on the whole that a function makes of the part
pub outcome_through :
    {X Y T : Type 0} (f : X → Y) (r : Result T Refusal) (why why' : Option ℕ) (was meant is : X) (meant' : Y) →
    why' ≡ why → f meant ≡ meant' → Outcome r why was meant is → Outcome r why' (f was) meant' (f is)
outcome_through f (Ok x) why why' was meant is meant' e g (h, k) = (e ∙ h, ap f k ∙ g)
outcome_through f (Err x) why why' was meant is meant' e g (h, k) = (e ∙ h, ap f k)
