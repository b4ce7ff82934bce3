use Rattle.orc.proofs.examples.no_second_reply.Goals as goal
use Rattle.orc.proofs.Worked.{no_second_reply}

pub returns : goal.returns
returns c = no_second_reply
