use Rattle.orc.proofs.laws.lapsing_keeps_executions.Goals as goal
use Rattle.orc.proofs.Alike.{lapsing_keeps_executions}

pub returns : goal.returns
returns c = lapsing_keeps_executions
