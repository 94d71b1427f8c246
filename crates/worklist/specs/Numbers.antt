-- The numbers that stand for kinds of records and for faults of a list.
use Rattle.std.specs.Prelude.{ℕ, cond, Some, None, Ok, Err, Option, Result, ◌==◌}
use Rattle.worklist.specs.declared.kind.Kind.{Kind}
use Rattle.worklist.specs.declared.kind.Kind.TheVariants.{Flush, Read, Discard, Idle}
use Rattle.worklist.specs.declared.fault.ListFault.{ListFault}
use Rattle.worklist.specs.declared.fault.ListFault.TheVariants.{UnknownKind, NotZero, CutShort, NoRoom, TooLong}

abbrev pub kind_number : Kind → ℕ
kind_number Flush = 1
kind_number Read = 2
kind_number Discard = 3
kind_number Idle = 4

-- the kind that a number stands for, if one does
abbrev pub kind_for : ℕ → Result Kind ListFault
kind_for n =
    cond (n == 1) (Ok Flush) (cond (n == 2) (Ok Read) (cond (n == 3) (Ok Discard) (cond (n == 4) (Ok Idle) (Err UnknownKind))))

abbrev pub fault_number : ListFault → ℕ
fault_number UnknownKind = 1
fault_number NotZero = 2
fault_number CutShort = 3
fault_number NoRoom = 4
fault_number TooLong = 5

-- the number with which a list ends: 0 if nothing was wrong
abbrev pub end_number : Option ListFault → ℕ
end_number None = 0
end_number (Some e) = fault_number e
