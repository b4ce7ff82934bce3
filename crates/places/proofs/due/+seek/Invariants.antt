use Rattle.std.proofs.Common.{length}
use Rattle.places.proofs.due.+seek.Given as goal

abbrev pub decreases-seek : goal.decreases-seek
decreases-seek l = length l.bytes.now
