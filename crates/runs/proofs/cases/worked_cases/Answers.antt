use Rattle.runs.proofs.Working.{worked_cases}
use Rattle.runs.proofs.cases.worked_cases.Goals as goal

pub returns : goal.returns
returns c = worked_cases
