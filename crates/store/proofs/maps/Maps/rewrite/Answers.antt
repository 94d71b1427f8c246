-- The block is written with the gathered pages, whose set fits into the maps.
use Rattle.std.proofs.Common.{ℕ, ◌^◌, ◌<◌, ap, ◌∙◌, arith}
use Rattle.rules.specs.Moves.{cleared, clearing, filled}
use Rattle.rules.specs.Calls.{row_of}
use Rattle.store.specs.Moves.{row_in}
use Rattle.store.specs.State.{state_of}
use Rattle.store.proofs.RewriteLaws.{laid_fits, rewritten_is}
use Rattle.store.proofs.maps.Maps.rewrite.Goals as goal

pub renew-requires : goal.renew-requires
renew-requires g c =
    let k = g.F.Flash.card c.args.flash.now in
    let fits : c.in_ok-pages.pages.0 < 2 ^ 64 = omega (arith, c.in_ok-pages) in
    record {
      a_block = c.requires.inside;
      fits = laid_fits _ c.in_ok-pages.pages.0 k.shape.size c.gather.new.area c.args.self.now.pages c.in_ok-pages.ensures c.args.self.now.few_pages fits;
    }

pub returns : goal.returns
returns g c =
    let k = g.F.Flash.card c.args.flash.now in
    let after = g.F.Flash.card c.write_block.new.flash in
    let s = state_of c.args.self.now k in
    let d = c.args.group.now.block.0 in
    let pages = c.in_ok-pages.pages.0 in
    let area = c.gather.new.area in
    let size = k.shape.size in
    let fits : pages < 2 ^ 64 = omega (arith, c.in_ok-pages) in
    let wrote = c.in_ok-erases.ensures in
    let at = c.data_block.ensures in (
      wrote.0 ∙ ap (clearing k) at,
      rewritten_is s d (row_of size c.args.group.now.pages.0 c.args.group.now.bytes.now) pages area after _ c.requires.ready.agrees.pages_are c.args.self.now.few_pages fits c.in_ok-pages.ensures
          (wrote.1 ∙ ap (λ (b : ℕ). filled (cleared k b) b (row_in pages size area) k.shape.pages) at)
          (c.renew.ensures after),
    )
