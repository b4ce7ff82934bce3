use Rattle.orc.proofs.examples.a_value_may_never_arrive.Goals as goal
use Rattle.orc.proofs.Worked.{a_value_may_never_arrive}

pub returns : goal.returns
returns c = a_value_may_never_arrive
