use Rattle.rules.proofs.law.law_stands.Goals as goal
use Rattle.rules.proofs.Laws.{law}

pub returns : goal.returns
returns c = law
