-- What a stack of the layers means.
use Rattle.std.specs.Prelude.{List}
use Rattle.flash.specs.declared.block.PhysicalBlock.{PhysicalBlock}
use Rattle.flash.specs.Meaning.{Card}
use Rattle.layers.specs.Good.{bad_table, good_card}
use Rattle.layers.specs.Pair.{pair_card}

-- the good blocks of a pair of the good blocks of two cards
abbrev pub stack_card : Card → List PhysicalBlock → Card → List PhysicalBlock → List PhysicalBlock → Card
stack_card left left_bad right right_bad bad =
    good_card (bad_table bad) (pair_card (good_card (bad_table left_bad) left) (good_card (bad_table right_bad) right))
