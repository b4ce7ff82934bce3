use Rattle.orc.proofs.examples.a_timer_ends_the_wait.Goals as goal
use Rattle.orc.proofs.Worked.{a_timer_ends_the_wait}

pub returns : goal.returns
returns c = a_timer_ends_the_wait
