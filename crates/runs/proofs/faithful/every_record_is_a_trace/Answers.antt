use Rattle.runs.proofs.Tracing.{every_record_is_a_trace}
use Rattle.runs.proofs.faithful.every_record_is_a_trace.Goals as goal

pub returns : goal.returns
returns c = every_record_is_a_trace
