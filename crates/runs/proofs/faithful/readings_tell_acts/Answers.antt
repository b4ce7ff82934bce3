use Rattle.runs.proofs.Believing.{readings_tell_acts}
use Rattle.runs.proofs.faithful.readings_tell_acts.Goals as goal

pub returns : goal.returns
returns c = readings_tell_acts
