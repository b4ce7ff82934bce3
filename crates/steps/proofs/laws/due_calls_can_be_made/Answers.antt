use Rattle.steps.proofs.Transitions.{due_calls_can_be_made}
use Rattle.steps.proofs.laws.due_calls_can_be_made.Goals as goal

pub returns : goal.returns
returns c = due_calls_can_be_made
