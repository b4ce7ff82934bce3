use Rattle.runs.proofs.Believing.{every_step_can_be_made}
use Rattle.runs.proofs.moving.every_step_can_be_made.Goals as goal

pub returns : goal.returns
returns c = every_step_can_be_made
