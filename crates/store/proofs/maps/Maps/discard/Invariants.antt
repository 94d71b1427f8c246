-- The pages of the set that were passed are held no more.
use Rattle.std.proofs.Common.{◌≡◌}
use Rattle.flash.specs.Meaning.{Card}
use Rattle.rules.specs.Moves.{dropped}
use Rattle.rules.proofs.DropLaws.{up_to}
use Rattle.store.specs.State.{state_of}
use Rattle.store.proofs.maps.Maps.discard.Given as goal

abbrev pub invariant-loop-page : goal.invariant-loop-page
invariant-loop-page l = (k : Card) → state_of l.self k ≡ dropped (state_of l.initial.self k) l.block.0 (up_to l.pages.0 l.page)
