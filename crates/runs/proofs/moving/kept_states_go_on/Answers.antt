use Rattle.runs.proofs.Believing.{kept_states_go_on}
use Rattle.runs.proofs.moving.kept_states_go_on.Goals as goal

pub returns : goal.returns
returns c = kept_states_go_on
