use Rattle.rules.proofs.law.lasting_stands.Goals as goal
use Rattle.rules.proofs.Wear.{lasting}

pub returns : goal.returns
returns c = lasting
