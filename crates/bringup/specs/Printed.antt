-- What is printed of a bring-up check.
use Rattle.std.specs.Prelude.{ℕ, List, ◌++◌, codes}
use Rattle.std.specs.Fmt.{decimal}
use Rattle.bringup.specs.declared.report.BlockOutcome.{BlockOutcome}
use Rattle.bringup.specs.declared.report.BlockOutcome.TheVariants.{Worn, Programmed, ErasedFirst}
use Rattle.bringup.specs.declared.report.Summary.{Summary}

-- an outcome in a few words
abbrev pub outcome_text : BlockOutcome → List ℕ
outcome_text Worn = codes "worn, left alone"
outcome_text Programmed = codes "programmed"
outcome_text ErasedFirst = codes "erased and programmed"

-- a summary on one line
abbrev pub summary_text : Summary → List ℕ
summary_text s =
    decimal s.blocks ++ (codes " blocks, " ++ (decimal s.worn ++ (codes " worn, " ++ (decimal s.erased ++ (codes " erased, "
    ++ (decimal s.programmed ++ (codes " pages programmed, " ++ (decimal s.mismatched ++ codes " mismatched"))))))))
