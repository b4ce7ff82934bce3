use Rattle.files.proofs.Recovered.{file_back}
use Rattle.files.proofs.laws.files_are_read_back.Goals as goal

pub returns : goal.returns
returns c = file_back
