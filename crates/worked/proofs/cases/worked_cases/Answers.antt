use Rattle.worked.proofs.Working.{eight_worked_cases}
use Rattle.worked.proofs.cases.worked_cases.Goals as goal

pub returns : goal.returns
returns c = eight_worked_cases
