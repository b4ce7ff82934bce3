use Rattle.orc.proofs.laws.leaves_determine_steps.Goals as goal
use Rattle.orc.proofs.Leaves.{determined}

pub returns : goal.returns
returns c = determined
