use Rattle.steps.proofs.Transitions.{replies_can_be_made}
use Rattle.steps.proofs.laws.replies_can_be_made.Goals as goal

pub returns : goal.returns
returns c = replies_can_be_made
