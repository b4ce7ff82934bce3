use Rattle.orc.proofs.Decomposing.{executions_are_traces}
use Rattle.orc.proofs.agreement.executions_are_traces.Goals as goal

-- src/agreement.rt:5:1
pub returns : goal.returns
returns c = executions_are_traces
