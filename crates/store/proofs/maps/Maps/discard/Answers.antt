-- One page more in each turn: where it is held, its place is forgotten.
use Rattle.std.proofs.Common.{◌≡◌, ℕ, ◌+◌, ◌^◌, ◌<◌, true, length, Some, None, sym, ap, ◌∙◌, subst, arith}
use Rattle.flash.specs.Meaning.{no_card}
use Rattle.rules.specs.Sets.{has}
use Rattle.rules.specs.State.{State, held}
use Rattle.rules.proofs.DropLaws.{up_to, up_to_none, up_to_skip, up_to_all, dropped_none, dropped_as, dropped_more, drop_absent, dropped_plan, dropped_pages}
use Rattle.store.specs.Places.{place_of}
use Rattle.store.specs.State.{state_of}
use Rattle.store.proofs.MapsLaws.{orderly}
use Rattle.store.proofs.maps.Maps.discard.Goals as goal
use Rattle.store.proofs.maps.Maps.discard.Goals.{then-has+in-Some, then-has+in_default, else-has}

pub loop-page-init : goal.loop-page-init
loop-page-init c = λ k.
    let m = c.args.self.now in
    sym (dropped_none (state_of m k) c.args.block.0 (up_to c.args.pages.0 0) (orderly m) (omega (arith, (orderly m).sets_are, c.requires.a_block)) (up_to_none c.args.pages.0))

pub locate-requires : goal.locate-requires
locate-requires c =
    let s = state_of c.args.self.now no_card in
    let d = c.args.block.0 in
    let e = c.loop-page.invariant no_card in
    let p = up_to c.args.pages.0 c.loop-page.page in
    let plan : c.loop-page.self.plan ≡ s.plan = ap (λ (x : State). x.plan) e ∙ dropped_plan s d p in
    let pages : c.loop-page.self.pages ≡ s.pages = ap (λ (x : State). x.pages) e ∙ dropped_pages s d p in
    record { a_block = rw plan c.requires.a_block; a_page = omega (arith, c.loop-page-test.true) }

pub loop-page-preserved : goal.loop-page-preserved
loop-page-preserved c = λ k.
    let m₀ = c.args.self.now in
    let m = c.loop-page.self in
    let d = c.args.block.0 in
    let g = c.args.pages.0 in
    let i = c.loop-page.page in
    let in_sets : d < length (state_of m₀ k).sets = omega (arith, (orderly m₀).sets_are, c.requires.a_block) in
    elim c.if-has.branch [
      | then-has+in-Some w ↦
          let one : has g i ≡ true = sym w.if-has.ensures in
          let here : held (state_of m k) d i ≡ Some (place_of w.in-Some.place) = sym (w.in-Some.ensures.held k) in
          rw w.self-is
          (dropped_more (state_of m₀ k) (state_of m k) (state_of w.forget.new.self k) d g i in_sets one (c.loop-page.invariant k) (w.forget.ensures k d i here))
      | then-has+in_default w ↦
          let one : has g i ≡ true = sym w.if-has.ensures in
          let nowhere : held (state_of m k) d i ≡ None = sym (w.in_default.ensures.held k) in
          rw w.self-is
          (dropped_more (state_of m₀ k) (state_of m k) (state_of m k) d g i in_sets one (c.loop-page.invariant k) (sym (drop_absent (state_of m k) d i (orderly m) nowhere)))
      | else-has w ↦ rw w.self-is (c.loop-page.invariant k ∙ dropped_as (state_of m₀ k) d (up_to g i) (up_to g (i + 1)) (up_to_skip g i (sym w.if-has.ensures)))
    ]

pub returns : goal.returns
returns c = λ k.
    let m₀ = c.args.self.now in
    let d = c.args.block.0 in
    let g = c.args.pages.0 in
    let end : m₀.pages ≡ c.loop-page.page = omega arith in
    c.loop-page.invariant k
    ∙ dropped_as (state_of m₀ k) d (up_to g c.loop-page.page) (has g) (up_to_all g c.loop-page.page (subst (λ (n : ℕ). g < 2 ^ n) end c.requires.fits))
