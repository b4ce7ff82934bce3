use Rattle.orc.proofs.laws.identities_keep_executions.Goals as goal
use Rattle.orc.proofs.Alike.{identities_keep_executions}

pub returns : goal.returns
returns c = identities_keep_executions
