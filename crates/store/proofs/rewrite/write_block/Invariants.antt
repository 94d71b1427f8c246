-- The pages below are programmed, and the chunks of the others are left.
use Rattle.std.proofs.Common.{◌≡◌, ◌*◌, take}
use Rattle.std.specs.Iterator.Adapters.{enumerate_source, enumerate_count}
use Rattle.std.specs.Slice.Iter.{chunks_exact_size, chunks_exact_rest}
use Rattle.rules.specs.Moves.{filled}
use Rattle.store.specs.Moves.{row_in}
use Rattle.rules.proofs.ReadyCards.{Filling}
use Rattle.store.proofs.FillLaws.{ChunksFrom}
use Rattle.store.proofs.rewrite.write_block.Given as goal

abbrev pub invariant-loop-page : goal.invariant-loop-page
invariant-loop-page g l =
    let k₀ = g.F.Flash.card l.initial.flash in
    let k = g.F.Flash.card l.flash in
    let n = enumerate_count l.page-iterator in
    record {
      can : (goal.iterator-loop-page g).can_next l.page-iterator;
      finite : (goal.iterator-loop-page g).is_finite l.page-iterator;
      size : chunks_exact_size (enumerate_source l.page-iterator) ≡ l.size;
      chunks : ChunksFrom (take (k₀.shape.pages * l.size) l.area) k₀.shape.pages l.size n (chunks_exact_rest (enumerate_source l.page-iterator));
      so_far : (k ≡ filled k₀ l.block.0 (row_in l.set.0 l.size l.area) n) × Filling k₀ l.block.0 k n;
    }
