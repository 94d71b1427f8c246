-- The page is the group's, or the one that is held, or there is none.
use Rattle.std.proofs.Common.{ℕ, List, take, Some, None, sym, ap, ◌∙◌}
use Rattle.rules.specs.Sets.{has}
use Rattle.store.specs.State.{state_of}
use Rattle.store.proofs.GatherLaws.{new_own, new_held, own_there, own_not}
use Rattle.store.proofs.maps.Maps.fetch.Goals as goal

pub returns-then-has : goal.returns-then-has
returns-then-has g c =
    let k = g.F.Flash.card c.args.flash.now in
    let rest = c.args.rest.now in
    let is = c.copy_from_slice.ensures.after ∙ ap (λ (n : ℕ). take n rest) c.requires.bytes in
    let own = own_there (has c.args.group.now.pages.0 c.args.page) (take k.shape.size rest) (sym c.if-has.ensures) in
    new_own (state_of c.args.self.now k) c.args.group.now.block.0 _ c.args.page _ (own ∙ ap (λ (x : List ℕ). Some x) (sym is))

pub returns-in_default : goal.returns-in_default
returns-in_default g c =
    let k = g.F.Flash.card c.args.flash.now in
    let own = own_not (has c.args.group.now.pages.0 c.args.page) (take k.shape.size c.args.rest.now) (sym c.if-has.ensures) in
    new_held (state_of c.args.self.now k) c.args.group.now.block.0 _ c.args.page None own (sym (c.in_default.ensures.held k))

pub returns : goal.returns
returns g c =
    let k = g.F.Flash.card c.args.flash.now in
    let own = own_not (has c.args.group.now.pages.0 c.args.page) (take k.shape.size c.args.rest.now) (sym c.if-has.ensures) in
    ap (λ (x : List ℕ). Some x) c.in_ok-read.ensures.1
    ∙ new_held (state_of c.args.self.now k) c.args.group.now.block.0 _ c.args.page _ own (sym (c.in-Some.ensures.held k))
