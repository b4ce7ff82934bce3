use Rattle.places.proofs.Seeking.{in_second}
use Rattle.places.proofs.due.+seek.Goals as goal

pub returns-in-Ok-seek : goal.returns-in-Ok-seek
returns-in-Ok-seek t c = in_second c.args.bytes.now c.in-Both.parts.now c.in-Both.ensures c.args.n c.in-Err.first c.in-Err.ensures.0 c.in-Err.ensures.1 c.in-Ok-seek.ensures
