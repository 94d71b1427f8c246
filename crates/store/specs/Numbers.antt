-- The numbers that stand for a store's refusals outside the program.
use Rattle.std.specs.Prelude.{ℕ}
use Rattle.store.specs.declared.refusal.StoreRefusal.{StoreRefusal}
use Rattle.store.specs.declared.refusal.StoreRefusal.TheVariants.{Unformatted, NoSuchBlock, NoSuchPage, EmptySet, WrongData, ShortArea, NearWorn, WrongBuffer, NotHeld, PlanOutOfLimits, FlashTooSmall}

abbrev pub number_of : StoreRefusal → ℕ
number_of Unformatted = 6
number_of NoSuchBlock = 7
number_of NoSuchPage = 8
number_of EmptySet = 9
number_of WrongData = 10
number_of ShortArea = 11
number_of NearWorn = 12
number_of WrongBuffer = 13
number_of NotHeld = 14
number_of PlanOutOfLimits = 15
number_of FlashTooSmall = 16
