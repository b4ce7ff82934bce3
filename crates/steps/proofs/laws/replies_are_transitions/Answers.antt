use Rattle.steps.proofs.Transitions.{replies_are_transitions}
use Rattle.steps.proofs.laws.replies_are_transitions.Goals as goal

pub returns : goal.returns
returns c = replies_are_transitions
