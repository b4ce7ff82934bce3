use Rattle.sheets.proofs.OneOutcome.{one_outcome}
use Rattle.sheets.proofs.laws.every_sheet_has_exactly_one_outcome.Goals as goal

pub returns : goal.returns
returns c = one_outcome
