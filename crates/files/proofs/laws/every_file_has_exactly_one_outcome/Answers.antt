use Rattle.files.proofs.OneOutcome.{one_outcome}
use Rattle.files.proofs.laws.every_file_has_exactly_one_outcome.Goals as goal

pub returns : goal.returns
returns c = one_outcome
