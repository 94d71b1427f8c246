-- Once no slot of the block is live, its set may have any pages.
use Rattle.std.proofs.Common.{◌≡◌, ℕ, Bool, cond, List, refl, ap, ◌∙◌, arith}
use Rattle.std.proofs.lemmas.Bool.{eq-eqb}
use Rattle.flash.specs.Meaning.{no_card}
use Rattle.rules.specs.State.{State, Slot}
use Rattle.rules.specs.Moves.{retired, of_block}
use Rattle.rules.proofs.OrderlyLaws.{in_set_le}
use Rattle.rules.proofs.Places.{named_in, named_retired}
use Rattle.store.specs.View.{table_of}
use Rattle.store.proofs.MapsLaws.{orderly_with_set}
use Rattle.store.proofs.ChangeLaws.{with_set, state_set}
use Rattle.store.proofs.maps.Maps.renew.Goals as goal

-- no slot names a page of a block that was retired
unnamed : (d i : ℕ) (t : List (List Slot)) → named_in d i (retired (of_block d) t) ≡ 0
unnamed d i t = named_retired d i (of_block d) t ∙ ap (λ (b : Bool). cond b 0 (named_in d i t)) (eq-eqb d d refl)

pub invariant_of-self-clause-orderly : goal.invariant_of-self-clause-orderly
invariant_of-self-clause-orderly c =
    let m₀ = c.args.self.now in
    let m = c.retire.new.self in
    let d = c.args.block.0 in
    let g = c.args.pages in
    let e = c.retire.ensures no_card in
    let pages : m.pages ≡ m₀.pages = ap (λ (s : State). s.pages) e in
    let none : (i : ℕ) → named_in d i (table_of m.plan m.table) ≡ 0 = λ i. ap (λ (s : State). named_in d i s.table) e ∙ unnamed d i (table_of m₀.plan m₀.table) in
    ∣ orderly_with_set m d g (rw pages c.requires.fits) (λ i. omega (arith, none i, in_set_le g.0 i)) ∣₁

pub returns : goal.returns
returns c = λ k.
    let m = c.retire.new.self in
    state_set m.plan m.pages m.sets m.table m.reserve k c.args.block.0 c.args.pages
    ∙ ap (λ (s : State). with_set s c.args.block.0 c.args.pages.0) (c.retire.ensures k)
