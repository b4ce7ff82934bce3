use Rattle.orc.proofs.examples.the_first_reply_wins.Goals as goal
use Rattle.orc.proofs.Worked.{the_first_reply_wins}

pub returns : goal.returns
returns c = the_first_reply_wins
