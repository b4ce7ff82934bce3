use Rattle.orc.proofs.laws.simplification_never_lengthens.Goals as goal
use Rattle.orc.proofs.Simplifying.{size_simplified}

pub returns : goal.returns
returns c = size_simplified
