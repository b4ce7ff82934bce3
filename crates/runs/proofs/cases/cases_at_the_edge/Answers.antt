use Rattle.runs.proofs.Working.{cases_at_the_edge}
use Rattle.runs.proofs.cases.cases_at_the_edge.Goals as goal

pub returns : goal.returns
returns c = cases_at_the_edge
