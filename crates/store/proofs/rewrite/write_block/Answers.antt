-- Each turn takes one chunk, and programs it if the set has its page.
use Rattle.std.proofs.Common.{◌≡◌, ℕ, ◌*◌, ◌<◌, Bool, cond, List, length, take, drop, Some, None, sym, ap, ◌∙◌, arith, rules}
use Rattle.std.proofs.lemmas.List.{length-take-le}
use Rattle.std.specs.Iterator.Adapters.{enumerate_source, enumerate_count}
use Rattle.std.specs.Slice.Iter.{chunks_exact_size, chunks_exact_rest}
use Rattle.flash.specs.Meaning.{programmed}
use Rattle.rules.specs.Sets.{has}
use Rattle.store.proofs.FillLaws.{cleared_as, page_of_used, fill_starts, fill_none, fill_skip, fill_put, fill_all, chunks_all, chunks_end, chunk_in, chunk_is, chunk_next}
use Rattle.store.proofs.rewrite.write_block.Given.{Over}
use Rattle.store.proofs.rewrite.write_block.Goals as goal
use Rattle.store.proofs.rewrite.write_block.Goals.{At-loop-page}

pub loop-page-init : goal.loop-page-init
loop-page-init g c =
    let k₁ = g.F.Flash.card c.clear.new.flash in
    let at = c.into_iter-page-iterator.ensures.into_iter_gives in
    let from = c.enumerate-page-items.ensures in
    let none : enumerate_count c.into_iter-page-iterator.result ≡ 0 = ap enumerate_count at ∙ from.count in
    let source = ap enumerate_source at ∙ from.source in
    record {
      can = search rules;
      finite = tt;
      size = ap chunks_exact_size source ∙ c.chunks_exact.ensures.size;
      chunks = chunks_all _ _ _ _ _ (ap chunks_exact_rest source ∙ c.chunks_exact.ensures.rest ∙ ap (λ (p : ℕ). take (p * c.geometry-size.result.size) c.args.area.now) (ap (λ x. x.pages) c.geometry-pages.ensures.is)) none;
      so_far = fill_none k₁ c.args.block.0 _ _ none (fill_starts (g.F.Flash.card c.args.flash.now) k₁ c.args.block.0 _ c.requires c.in_ok-erases.ensures.1);
    }

pub slice_bounds-chunks_exact-end : goal.slice_bounds-chunks_exact-end
slice_bounds-chunks_exact-end g c =
    let same = cleared_as (g.F.Flash.card c.args.flash.now) (g.F.Flash.card c.clear.new.flash) c.args.block.0 c.requires.inside c.in_ok-erases.ensures.1 in
    let pages = ap (λ x. x.pages) c.geometry-pages.ensures.is ∙ ap (λ x. x.pages) same in
    let size = ap (λ x. x.size) c.geometry-size.ensures.is ∙ ap (λ x. x.size) same in
    sym (length-take-le _ c.args.area.now (rw (pages, size) c.requires.area))

-- the block after it was cleared, and the part of the area that its pages fill
shape : (g : Over) (c : goal.At-loop-page g) → (g.F.Flash.card c.clear.new.flash).shape ≡ (g.F.Flash.card c.args.flash.now).shape
shape g c = cleared_as _ _ c.args.block.0 c.requires.inside c.in_ok-erases.ensures.1

size_is : (g : Over) (c : goal.At-loop-page g) → c.geometry-size.result.size ≡ (g.F.Flash.card c.clear.new.flash).shape.size
size_is g c = ap (λ x. x.size) c.geometry-size.ensures.is

some : (g : Over) (c : goal.At-loop-page g) → 0 < c.geometry-size.result.size
some g c = omega (arith, size_is g c, ap (λ x. x.size) (shape g c), c.requires.sound.size_low)

-- the part of the area that is used, as long as the pages of a block
abbrev used : (g : Over) (c : goal.At-loop-page g) → List ℕ
used g c = take ((g.F.Flash.card c.clear.new.flash).shape.pages * c.geometry-size.result.size) c.args.area.now

long : (g : Over) (c : goal.At-loop-page g) → (g.F.Flash.card c.clear.new.flash).shape.pages * c.geometry-size.result.size ≡ length (used g c)
long g c =
    let size = size_is g c ∙ ap (λ x. x.size) (shape g c) in
    let pages = ap (λ x. x.pages) (shape g c) in
    sym (length-take-le _ c.args.area.now (rw (pages, size) c.requires.area))

pub loop-page-preserved : goal.loop-page-preserved
loop-page-preserved g c =
    let here = (goal.at.loop-page-preserved g c).At-loop-page in
    let k₁ = g.F.Flash.card c.clear.new.flash in
    let k = g.F.Flash.card c.loop-page.flash in
    let n = enumerate_count c.loop-page.page-iterator in
    let s = c.geometry-size.result.size in
    let area = c.args.area.now in
    let inv = c.loop-page.invariant in
    let step = c.in-Some.ensures.steps in
    let q = ap (has c.args.set.0) (sym step.1) ∙ sym c.if-has.ensures in
    record {
      can = search rules;
      finite = tt;
      size = step.0.0 ∙ inv.size;
      chunks = chunk_next (used g here) _ s (some g here) (long g here) n _ inv.chunks _ _ step.0.1.0 (step.0.1.1 ∙ inv.size) _ step.2;
      so_far =
          fill_skip k₁ c.args.block.0 _ n k inv.so_far.0 inv.so_far.1 _ step.2
          (ap (λ (t : Bool). cond t (Some (take s (drop (n * s) area))) None) q);
    }

pub loop-page-preserved-in-Continue-branch-2 : goal.loop-page-preserved-in-Continue-branch-2
loop-page-preserved-in-Continue-branch-2 g c =
    let here = (goal.at.loop-page-preserved-in-Continue-branch-2 g c).At-loop-page in
    let k₁ = g.F.Flash.card c.clear.new.flash in
    let k = g.F.Flash.card c.loop-page.flash in
    let b = c.args.block.0 in
    let n = enumerate_count c.loop-page.page-iterator in
    let s = c.geometry-size.result.size in
    let area = c.args.area.now in
    let x = c.in-Some.bytes.now in
    let inv = c.loop-page.invariant in
    let step = c.in-Some.ensures.steps in
    let len = step.0.1.1 ∙ inv.size in
    let inside = chunk_in (used g here) _ s (some g here) (long g here) n _ inv.chunks _ _ step.0.1.0 len in
    let is = chunk_is (used g here) _ s (some g here) (long g here) n _ inv.chunks _ _ step.0.1.0 len in
    let q = ap (has c.args.set.0) (sym step.1) ∙ sym c.if-has.ensures in
    record {
      can = search rules;
      finite = tt;
      size = step.0.0 ∙ inv.size;
      chunks = chunk_next (used g here) _ s (some g here) (long g here) n _ inv.chunks _ _ step.0.1.0 len _ step.2;
      so_far =
          fill_put k₁ b _ n k inv.so_far.0 inv.so_far.1 _ step.2 x (g.F.Flash.card c.program.new.self)
          (ap (λ (t : Bool). cond t (Some (take s (drop (n * s) area))) None) q ∙ ap (λ (y : List ℕ). Some y) (sym (is ∙ page_of_used area _ n s inside)))
          (c.in_ok-program.ensures.1 ∙ ap (λ (p : ℕ). programmed k b p x) step.1) inside (len ∙ size_is g here);
    }

pub returns : goal.returns
returns g c =
    let here = (goal.at.returns g c).At-loop-page in
    let k₀ = g.F.Flash.card c.args.flash.now in
    let k₁ = g.F.Flash.card c.clear.new.flash in
    let done = c.in_ok-erases.ensures in
    let inv = c.loop-page.invariant in
    let same = cleared_as k₀ k₁ c.args.block.0 c.requires.inside done.1 in
    let size = ap (λ x. x.size) c.geometry-size.ensures.is ∙ ap (λ x. x.size) same in
    let pages = ap (λ x. x.pages) same in
    let end = chunks_end (used g here) _ _ (some g here) (long g here) _ _ inv.chunks (omega (arith, inv.size, c.in-None.ensures.steps.0.1.0)) in
    (done.0, fill_all k₀ k₁ (g.F.Flash.card c.loop-page.flash) c.args.block.0 c.args.set.0 c.geometry-size.result.size _ c.args.area.now inv.so_far.0 done.1 size (end ∙ pages))
