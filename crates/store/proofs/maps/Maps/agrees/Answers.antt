-- The two measures are compared, and then each block of the region with its row.
use Rattle.std.proofs.Common.{take, sym, ap, ◌∙◌, arith, rules, tests}
use Rattle.std.proofs.lemmas.Bool.Decides.{nat_tests}
use Rattle.std.proofs.lemmas.Iterator.{YieldsList-from_slice}
use Rattle.std.proofs.lemmas.Iterator.Consumers.{YieldsList-from_enumerate}
use Rattle.std.proofs.lemmas.Iterator.Search.{all_from_yields_List}
use Rattle.store.specs.State.{state_of}
use Rattle.store.proofs.AgreeLaws.{agrees_by_floors, differs_pages, differs_room, as_told, all_told}
use Rattle.store.proofs.maps.Maps.agrees.Goals as goal
use Rattle.store.proofs.maps.Maps.agrees.Goals.{then-self-geometry, else-self-geometry}

pub returns-then-self-geometry-2-clause-is : goal.returns-then-self-geometry-2-clause-is
returns-then-self-geometry-2-clause-is g c =
    let m = c.args.self.now in
    let k = g.F.Flash.card c.args.flash.now in
    let is = c.geometry-geometry.ensures.is in
    all_from_yields_List (as_told m k) _ _ c.all.result c.all.ensures.ran
    (YieldsList-from_enumerate (YieldsList-from_slice (take m.plan.region m.table) cc) cc) (λ x b q h. search (rules, tests))
    ∙ all_told m k
    ∙ sym (elim c.if-self-geometry.branch [
      | then-self-geometry w ↦
          let blocks = ap (λ x. x.blocks) is in
          agrees_by_floors (state_of m k) (w.if-self-geometry.true ∙ ap (λ x. x.pages) is) (grind (arith, nat_tests))
      | else-self-geometry w ↦
          let pages = sym w.value-is ∙ c.if-self-geometry-2.true in
          absurd (w.if-self-geometry.false (grind (arith, nat_tests)))
    ])

pub returns-else-self-geometry-2-clause-is : goal.returns-else-self-geometry-2-clause-is
returns-else-self-geometry-2-clause-is g c =
    let s = state_of c.args.self.now (g.F.Flash.card c.args.flash.now) in
    let is = c.geometry-geometry.ensures.is in
    c.if-self-geometry-2.false
    ∙ sym (elim c.if-self-geometry.branch [
      | then-self-geometry w ↦ let blocks = ap (λ x. x.blocks) is in differs_room s (grind (arith, nat_tests))
      | else-self-geometry w ↦ differs_pages s (λ e. w.if-self-geometry.false (e ∙ sym (ap (λ x. x.pages) is)))
    ])
