-- The numbers that stand for refusals and faults outside the program.
use Rattle.std.specs.Prelude.{ℕ}
use Rattle.flash.specs.declared.refusal.Refusal.{Refusal}
use Rattle.flash.specs.declared.refusal.Refusal.TheVariants.{NoSuchBlock, NoSuchPage, WrongLength, BelowFloor, WornOut}
use Rattle.flash.specs.declared.making.MakingFault.{MakingFault}
use Rattle.flash.specs.declared.making.MakingFault.TheVariants.{OutOfLimits, MemoryShort, BadHeader, NotBlank}

-- a refused call of a flash
abbrev pub number_of : Refusal → ℕ
number_of NoSuchBlock = 17
number_of NoSuchPage = 18
number_of WrongLength = 19
number_of BelowFloor = 20
number_of WornOut = 21

-- a flash that cannot be made
abbrev pub fault_number : MakingFault → ℕ
fault_number OutOfLimits = 22
fault_number MemoryShort = 23
fault_number (BadHeader block) = 24
fault_number (NotBlank block) = 25
