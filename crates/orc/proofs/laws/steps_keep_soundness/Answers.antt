use Rattle.orc.proofs.laws.steps_keep_soundness.Goals as goal
use Rattle.orc.proofs.Keeping.{kept_by_steps}

pub returns : goal.returns
returns c = kept_by_steps
