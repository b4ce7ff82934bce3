use Rattle.sheets.proofs.Decoded.{decoded}
use Rattle.sheets.proofs.Encoded.{encoded}
use Rattle.sheets.proofs.laws.accepted_exactly_if_encoded.Goals as goal

pub returns : goal.returns
returns c bs bytes rows = (decoded bs bytes, encoded bs rows)
