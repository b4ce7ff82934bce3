use Rattle.runs.proofs.Believing.{passable_time_can_be_waited}
use Rattle.runs.proofs.moving.passable_time_can_be_waited.Goals as goal

pub returns : goal.returns
returns c = passable_time_can_be_waited
