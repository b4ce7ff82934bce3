use Rattle.runs.proofs.Following.{every_trace_is_recorded}
use Rattle.runs.proofs.faithful.every_trace_is_recorded.Goals as goal

pub returns : goal.returns
returns c = every_trace_is_recorded
