use Rattle.orc.proofs.laws.tickets_are_unseen.Goals as goal
use Rattle.orc.proofs.Alike.{tickets_are_unseen}

pub returns : goal.returns
returns c = tickets_are_unseen
