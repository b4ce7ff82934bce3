use Rattle.orc.proofs.laws.simplification_is_idempotent.Goals as goal
use Rattle.orc.proofs.Simplifying.{simplified_twice}

pub returns : goal.returns
returns c = simplified_twice
