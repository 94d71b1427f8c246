-- Each turn appends one page of the group, whose bytes come first among the rest.
use Rattle.std.proofs.Common.{◌≡◌, ℕ, ◌*◌, ◌≤◌, true, length, sym, refl, ap, ◌∙◌}
use Rattle.rules.specs.Calls.{row_of}
use Rattle.rules.specs.Moves.{appended}
use Rattle.rules.specs.Sets.{has, pages_in}
use Rattle.store.specs.State.{state_of}
use Rattle.store.proofs.AppendLaws.{next_stores, appended_put, appended_skip}
use Rattle.store.proofs.GatherLaws.{rest_all, own_fits, rest_next, rest_same}
use Rattle.store.proofs.maps.Maps.append_pages.Given.{Over}
use Rattle.store.proofs.maps.Maps.append_pages.Goals as goal
use Rattle.store.proofs.maps.Maps.append_pages.Goals.{In-loop-page, then-has+in_ok-store_page, else-has}

pub loop-page-init : goal.loop-page-init
unfolding appended
loop-page-init g c = record { below = refl; left = rest_all c.geometry-size.result.size c.args.group.now.pages.0 c.args.group.now.bytes.now }

-- the bytes of a page of the group are all there
page_there :
    (g : Over) (c : goal.In-loop-page g) → has c.args.group.now.pages.0 c.loop-page.page ≡ true →
    c.geometry-size.result.size ≤ length c.loop-page.rest.now
page_there g c q =
    let n = c.args.self.now.pages in
    let size = ap (λ x. x.size) c.geometry-size.ensures.is in
    own_fits c.geometry-size.result.size c.args.group.now.pages.0 c.args.group.now.bytes.now c.loop-page.page c.loop-page.rest.now c.loop-page.invariant.left n c.loop-page-test.true
    (c.requires.bytes ∙ ap (λ (k : ℕ). pages_in n c.args.group.now.pages.0 * k) (sym size)) q

pub split_at-requires : goal.split_at-requires
split_at-requires g c = page_there g (goal.at.split_at-requires g c).In-loop-page (sym c.if-has.ensures)

pub store_page-requires : goal.store_page-requires
store_page-requires g c =
    let s = state_of c.args.self.now (g.F.Flash.card c.args.flash.now) in
    let size = ap (λ x. x.size) c.geometry-size.ensures.is in
    let below = c.loop-page.invariant.below ∙ ap (λ (n : ℕ). appended s c.args.group.now.block.0 (row_of n c.args.group.now.pages.0 c.args.group.now.bytes.now) c.loop-page.page) size in
    next_stores s c.args.group.now.block.0 c.args.group.now.pages.0 c.args.group.now.bytes.now c.requires _ c.loop-page.page _ below c.loop-page-test.true (sym c.if-has.ensures)
    (c.split_at.ensures.front_len ∙ size)

pub loop-page-preserved : goal.loop-page-preserved
loop-page-preserved g c =
    let s = state_of c.args.self.now (g.F.Flash.card c.args.flash.now) in
    let size = c.geometry-size.result.size in
    let bytes = c.args.group.now.bytes.now in
    let d = c.args.group.now.block.0 in
    let set = c.args.group.now.pages.0 in
    let n = c.loop-page.page in
    let rest = c.loop-page.rest.now in
    let inv = c.loop-page.invariant in
    elim c.if-has.branch [
      | then-has+in_ok-store_page w ↦
          let q = sym w.if-has.ensures in
          rw (w.flash-is, w.self-is, w.rest-is)
          (record {
            below = appended_put s d set bytes c.requires _ _ n size rest w.split_at.result.0.now inv.below inv.left q w.split_at.ensures.front w.in_ok-store_page.ensures;
            left = w.split_at.ensures.back ∙ rest_next size set bytes n rest inv.left q;
          })
      | else-has w ↦
          let q = sym w.if-has.ensures in
          rw (w.flash-is, w.self-is, w.rest-is)
          (record { below = appended_skip s d set bytes c.requires _ n size inv.below q; left = rest_same size set bytes n rest inv.left q })
    ]
