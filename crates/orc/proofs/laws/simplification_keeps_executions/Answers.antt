use Rattle.orc.proofs.laws.simplification_keeps_executions.Goals as goal
use Rattle.orc.proofs.Alike.{simplification_keeps_executions}

pub returns : goal.returns
returns c = simplification_keeps_executions
