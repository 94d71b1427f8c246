use Rattle.chips.proofs.ImageFaults.{block_bad, block_pages}
use Rattle.chips.proofs.image.ImageLayout.block_fault.Goals as goal

pub returns-then-not-is_good : goal.returns-then-not-is_good
returns-then-not-is_good c =
    block_bad _ _ _ _ _ _ c.header_at-header.ensures c.if-not-is_good.ensures

pub returns-then-not-all_blank : goal.returns-then-not-all_blank
returns-then-not-all_blank c =
    block_pages _ _ _ _ _ _ c.header_at-header.ensures _ _ _ c.if-not-is_good.ensures c.page_start-start.ensures c.page_start-end.ensures c.if-not-all_blank.ensures

pub returns : goal.returns
returns c =
    block_pages _ _ _ _ _ _ c.header_at-header.ensures _ _ _ c.if-not-is_good.ensures c.page_start-start.ensures c.page_start-end.ensures c.if-not-all_blank.ensures
