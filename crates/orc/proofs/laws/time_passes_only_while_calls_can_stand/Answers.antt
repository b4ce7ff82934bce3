use Rattle.orc.proofs.laws.time_passes_only_while_calls_can_stand.Goals as goal
use Rattle.orc.proofs.Alike.{pass_stands}

pub returns : goal.returns
returns c = pass_stands
