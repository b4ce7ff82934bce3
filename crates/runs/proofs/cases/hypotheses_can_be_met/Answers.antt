use Rattle.runs.proofs.Working.{hypotheses_can_be_met}
use Rattle.runs.proofs.cases.hypotheses_can_be_met.Goals as goal

pub returns : goal.returns
returns c = hypotheses_can_be_met
