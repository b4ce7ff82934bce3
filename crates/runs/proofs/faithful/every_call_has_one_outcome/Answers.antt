use Rattle.runs.proofs.Believing.{every_call_has_one_outcome}
use Rattle.runs.proofs.faithful.every_call_has_one_outcome.Goals as goal

pub returns : goal.returns
returns c = every_call_has_one_outcome
