use Rattle.orc.proofs.examples.each_reply_spawns_a_copy.Goals as goal
use Rattle.orc.proofs.Worked.{each_reply_spawns_a_copy}

pub returns : goal.returns
returns c = each_reply_spawns_a_copy
