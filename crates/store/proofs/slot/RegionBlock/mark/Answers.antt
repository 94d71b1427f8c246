-- The slot is written.
use Rattle.store.proofs.SlotLaws.{marked_slots}
use Rattle.store.proofs.slot.RegionBlock.mark.Goals as goal

pub returns : goal.returns
returns c = marked_slots c.args.self.now c.args.slot
