use Rattle.orc.proofs.laws.lapsing_ends_what_lapses.Goals as goal
use Rattle.orc.proofs.Lapsing.{pending_lapsed}

pub returns : goal.returns
returns c = pending_lapsed
