-- Each turn fetches one page more into its place.
use Rattle.std.proofs.Common.{◌≡◌, ℕ, ◌+◌, ◌-◌, ◌*◌, ◌≤◌, true, List, length, drop, sym, ap, ◌∙◌, subst, arith, Bor}
use borrow.Rule.Slice.PartMut.{put_mid}
use Rattle.std.specs.List.{between}
use Rattle.std.proofs.lemmas.List.Edits.{length-between}
use Rattle.std.proofs.lemmas.Slice.{between_to_end}
use Rattle.rules.specs.declared.pages.PageSet.{PageSet}
use Rattle.rules.specs.Sets.{has, pages_in}
use Rattle.rules.specs.Moves.{gathered}
use Rattle.rules.specs.Calls.{row_of}
use Rattle.store.specs.Moves.{Laid, page_if}
use Rattle.store.specs.State.{state_of}
use Rattle.store.proofs.GatherLaws.{rest_all, own_fits, rest_next, rest_same, new_first, row_in_lem, laid_none, laid_more, Added, added_with, added_not}
use Rattle.store.proofs.maps.Maps.gather.Given.{Over}
use Rattle.store.proofs.maps.Maps.gather.Goals as goal
use Rattle.store.proofs.maps.Maps.gather.Goals.{In-loop-page, then-branch, else-branch, then-has, else-has}

-- a page as the flash has it
size_is : (g : Over) (c : goal.In-loop-page g) → c.geometry-size.result.size ≡ (g.F.Flash.card c.args.flash.now).shape.size
size_is g c = ap (λ x. x.size) c.geometry-size.ensures.is

-- the page's place lies in the area
place_in :
    (g : Over) (c : goal.In-loop-page g) →
    c.loop-page.page * c.geometry-size.result.size + c.geometry-size.result.size ≤ length c.loop-page.area
place_in g c =
    row_in_lem c.loop-page.page c.args.self.now.pages c.geometry-size.result.size _ c.args.area.now c.loop-page.area c.loop-page-test.true (size_is g c) c.requires.area_long c.loop-page.auto.area

-- the bytes of a page of the group are all there
own_in :
    (g : Over) (c : goal.In-loop-page g) → has c.args.group.now.pages.0 c.loop-page.page ≡ true →
    c.geometry-size.result.size ≤ length c.loop-page.rest.now
own_in g c =
    let s = c.geometry-size.result.size in
    let n = c.args.self.now.pages in
    own_fits s c.args.group.now.pages.0 c.args.group.now.bytes.now c.loop-page.page c.loop-page.rest.now c.loop-page.invariant.left n c.loop-page-test.true
    (c.requires.group ∙ ap (λ (k : ℕ). pages_in n c.args.group.now.pages.0 * k) (sym (size_is g c)))

pub loop-page-init : goal.loop-page-init
loop-page-init g c =
    let s = c.geometry-size.result.size in
    record { left = rest_all s c.args.group.now.pages.0 c.args.group.now.bytes.now; laid = laid_none _ s c.args.area.now }

pub slice_bounds-into-end : goal.slice_bounds-into-end
slice_bounds-into-end g c = place_in g c

pub fetch-requires : goal.fetch-requires
fetch-requires g c =
    let here = (goal.at.fetch-requires g c).In-loop-page in
    let s = c.geometry-size.result.size in
    let p = c.loop-page.page in
    let n : length (between (p * s) (p * s + s) c.loop-page.area) ≡ s =
    let e = length-between c.loop-page.area (p * s) (p * s + s) (place_in g here) in
    omega arith in
    record {
      ready = c.requires.ready;
      inside = c.requires.inside;
      page_within = c.loop-page-test.true;
      bytes = n ∙ size_is g here;
      own = λ h. omega (arith, own_in g here h);
    }

pub slice_bounds-rest-count : goal.slice_bounds-rest-count
slice_bounds-rest-count g c = own_in g (goal.at.slice_bounds-rest-count g c).In-loop-page (sym c.if-has.ensures)

pub slice_bounds-rest-start : goal.slice_bounds-rest-start
slice_bounds-rest-start g c = slice_bounds-rest-count g c

pub loop-page-preserved : goal.loop-page-preserved
loop-page-preserved g c =
    let here = (goal.at.loop-page-preserved g c).In-loop-page in
    let s = c.geometry-size.result.size in
    let p = c.loop-page.page in
    let set = c.args.group.now.pages.0 in
    let bytes = c.args.group.now.bytes.now in
    let state = state_of c.args.self.now (g.F.Flash.card c.args.flash.now) in
    let row = gathered state c.args.group.now.block.0 (row_of s set bytes) in
    let area = c.loop-page.area in
    let part = c.fetch.new.into in
    let there = c.in_ok-fetch.field-0 in
    let was = c.loop-page.pages.0 in
    let laid = c.loop-page.invariant.laid in
    let fits = place_in g here in
    let z : p * s + s - p * s ≡ s = omega arith in
    let len : length part ≡ s = c.fetch.auto.into ∙ length-between area (p * s) (p * s + s) fits ∙ z in
    let page : page_if there part ≡ row p =
    c.in_ok-fetch.ensures
    ∙ new_first s set bytes state c.args.group.now.block.0 _ p c.loop-page.rest.now (size_is g here) c.loop-page.invariant.left in
    let added : Added was p there c.if-branch.pages.0 =
    elim c.if-branch.branch [
      | then-branch w ↦
          added_with was p laid.none_above there c.if-branch.pages.0 w.if-branch.true (omega (arith, c.loop-page-test.true, c.args.self.now.few_pages))
          (ap (λ (x : PageSet). x.0) w.pages-is ∙ w.with-pages.ensures)
      | else-branch w ↦ added_not was p laid.none_above there c.if-branch.pages.0 w.if-branch.false (ap (λ (x : PageSet). x.0) w.pages-is)
    ] in
    let rest : c.if-has.rest.now ≡ drop (pages_in (p + 1) set * s) bytes =
    elim c.if-has.branch [
      | then-has w ↦
          ap (λ (r : Bor (List ℕ)). r.now) w.rest-is
          ∙ between_to_end c.loop-page.rest.now s _ (omega arith)
          ∙ rest_next s set bytes p c.loop-page.rest.now c.loop-page.invariant.left (sym w.if-has.ensures)
      | else-has w ↦ ap (λ (r : Bor (List ℕ)). r.now) w.rest-is ∙ rest_same s set bytes p c.loop-page.rest.now c.loop-page.invariant.left (sym w.if-has.ensures)
    ] in
    record {
      left = rest;
      laid = subst (λ (n : ℕ). Laid row c.if-branch.pages.0 s (put_mid (p * s) n area part) (p + 1)) (sym z) (laid_more row was s area p laid part fits len there c.if-branch.pages.0 page added);
    }
