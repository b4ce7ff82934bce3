use Rattle.std.proofs.Common.{◌∙◌}
use Rattle.walks.proofs.Closing.{stop_there}
use Rattle.walks.proofs.settling.stops_from.Goals as goal

pub returns : goal.returns
returns c = λ o e long is. stop_there _ c.args.at o e long (c.as_slice.ensures ∙ is)
