use Rattle.runs.proofs.Believing.{every_run_is_faithful}
use Rattle.runs.proofs.faithful.every_run_is_faithful.Goals as goal

pub returns : goal.returns
returns c = every_run_is_faithful
