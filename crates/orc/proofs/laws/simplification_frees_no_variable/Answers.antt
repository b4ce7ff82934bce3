use Rattle.orc.proofs.laws.simplification_frees_no_variable.Goals as goal
use Rattle.orc.proofs.Simplifying.{free_simplified}

pub returns : goal.returns
returns c = free_simplified
