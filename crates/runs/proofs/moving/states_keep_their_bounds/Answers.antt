use Rattle.runs.proofs.Believing.{states_keep_their_bounds}
use Rattle.runs.proofs.moving.states_keep_their_bounds.Goals as goal

pub returns : goal.returns
returns c = states_keep_their_bounds
