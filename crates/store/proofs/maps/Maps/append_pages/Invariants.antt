-- The pages below are appended, and the group's bytes for them are used up.
use Rattle.std.proofs.Common.{◌≡◌, ◌*◌, drop}
use Rattle.rules.specs.Calls.{row_of}
use Rattle.rules.specs.Moves.{appended}
use Rattle.rules.specs.Sets.{pages_in}
use Rattle.store.specs.State.{state_of}
use Rattle.store.proofs.maps.Maps.append_pages.Given as goal

abbrev pub invariant-loop-page : goal.invariant-loop-page
invariant-loop-page g l =
    record {
      below : state_of l.self (g.F.Flash.card l.flash) ≡ appended (state_of l.initial.self (g.F.Flash.card l.initial.flash)) l.group.block.0 (row_of l.size l.group.pages.0 l.group.bytes.now) l.page;
      left : l.rest ≡ drop (pages_in l.page l.group.pages.0 * l.size) l.group.bytes.now;
    }
