use Rattle.orc.proofs.laws.simplification_keeps_pending_calls.Goals as goal
use Rattle.orc.proofs.Simplifying.{pending_simplified}

pub returns : goal.returns
returns c = pending_simplified
