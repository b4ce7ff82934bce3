use Rattle.orc.proofs.laws.simplification_and_lapsing_keep_soundness.Goals as goal
use Rattle.orc.proofs.Lapsing.{soundness_kept}

pub returns : goal.returns
returns c = soundness_kept
