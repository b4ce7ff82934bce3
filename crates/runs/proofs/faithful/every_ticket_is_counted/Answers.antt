use Rattle.runs.proofs.Tallying.{every_ticket_is_counted}
use Rattle.runs.proofs.faithful.every_ticket_is_counted.Goals as goal

pub returns : goal.returns
returns c = every_ticket_is_counted
