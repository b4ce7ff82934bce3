use Rattle.orc.proofs.examples.no_reply_after_pruning.Goals as goal
use Rattle.orc.proofs.Worked.{no_reply_after_pruning}

pub returns : goal.returns
returns c = no_reply_after_pruning
