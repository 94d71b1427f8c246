use Rattle.std.proofs.Common.{◌+◌, ap}
use Rattle.chips.proofs.FreshLaws.{fresh_block_lem}
use Rattle.chips.proofs.image.ImageLayout.blank_block.Goals as goal

pub returns : goal.returns
returns c =
    fresh_block_lem c.args.self.now.geometry c.args.memory.now c.fill.new.self c.fill-2.new.self c.args.block.0 _ _ _ c.requires
    c.block_start-header.ensures c.page_start-pages.ensures (ap (λ l. c.page_start-pages.result + l) c.pages_length.ensures)
    (c.fill.ensures.after (λ y e. e)) (c.fill-2.ensures.after (λ y e. e))
