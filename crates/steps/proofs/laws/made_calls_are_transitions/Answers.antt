use Rattle.steps.proofs.Transitions.{made_calls_are_transitions}
use Rattle.steps.proofs.laws.made_calls_are_transitions.Goals as goal

pub returns : goal.returns
returns c = made_calls_are_transitions
