-- The pages below are gathered, and the group's bytes for them are used up.
use Rattle.std.proofs.Common.{◌≡◌, ◌*◌, drop}
use Rattle.rules.specs.Sets.{pages_in}
use Rattle.rules.specs.Moves.{gathered}
use Rattle.rules.specs.Calls.{row_of}
use Rattle.store.specs.Moves.{Laid}
use Rattle.store.specs.State.{state_of}
use Rattle.store.proofs.maps.Maps.gather.Given as goal

abbrev pub invariant-loop-page : goal.invariant-loop-page
invariant-loop-page g l =
    record {
      left : l.rest ≡ drop (pages_in l.page l.group.pages.0 * l.size) l.group.bytes.now;
      laid : Laid (gathered (state_of l.self (g.F.Flash.card l.flash)) l.group.block.0 (row_of l.size l.group.pages.0 l.group.bytes.now)) l.pages.0 l.size l.area l.page;
    }
