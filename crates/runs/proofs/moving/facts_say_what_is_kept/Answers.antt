use Rattle.runs.proofs.Stating.{facts_say_what_is_kept}
use Rattle.runs.proofs.moving.facts_say_what_is_kept.Goals as goal

pub returns : goal.returns
returns c = facts_say_what_is_kept
