use Rattle.orc.proofs.examples.the_nearest_binder_counts.Goals as goal
use Rattle.orc.proofs.Worked.{the_nearest_binder_counts}

pub returns : goal.returns
returns c = the_nearest_binder_counts
