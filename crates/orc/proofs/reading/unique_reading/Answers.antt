use Rattle.orc.proofs.reading.unique_reading.Goals as goal
use Rattle.orc.proofs.Bytes.{unique_reading}

pub returns : goal.returns
returns c = unique_reading
