use Rattle.worklist.proofs.RoundTrip.{records_return_lem}
use Rattle.worklist.proofs.laws.records_return.Goals as goal

pub returns : goal.returns
returns c = records_return_lem
