use Rattle.runs.proofs.Lasting.{not_loaded_stays}
use Rattle.runs.proofs.moving.not_loaded_stays.Goals as goal

pub returns : goal.returns
returns c = not_loaded_stays
