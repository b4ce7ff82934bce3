use Rattle.orc.proofs.laws.substitution_commutes_with_simplification.Goals as goal
use Rattle.orc.proofs.Simplifying.{substitute_simplified}

pub returns : goal.returns
returns c = substitute_simplified
