use Rattle.orc.proofs.examples.a_definition_may_call_itself.Goals as goal
use Rattle.orc.proofs.Worked.{a_definition_may_call_itself}

pub returns : goal.returns
returns c = a_definition_may_call_itself
