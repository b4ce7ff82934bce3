use Rattle.files.proofs.FileDecoded.{decoded}
use Rattle.files.proofs.FileEncoded.{encoded}
use Rattle.files.proofs.laws.accepted_exactly_if_well_formed.Goals as goal

pub returns : goal.returns
returns c m bs bytes file = (decoded m bs bytes file, λ (ok, is). encoded m bs file ok is)
