use Rattle.orc.proofs.Composing.{traces_are_executions}
use Rattle.orc.proofs.agreement.traces_are_executions.Goals as goal

-- src/agreement.rt:12:1
pub returns : goal.returns
returns c = traces_are_executions
