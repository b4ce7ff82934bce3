use Rattle.runs.proofs.Believing.{calls_have_one_history}
use Rattle.runs.proofs.moving.calls_have_one_history.Goals as goal

pub returns : goal.returns
returns c = calls_have_one_history
