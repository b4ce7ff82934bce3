use Rattle.orc.proofs.examples.no_time_over_a_due_call.Goals as goal
use Rattle.orc.proofs.Worked.{no_time_over_a_due_call}

pub returns : goal.returns
returns c = no_time_over_a_due_call
