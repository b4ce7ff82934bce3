use Rattle.std.proofs.Common.{length}
use Rattle.places.proofs.due.+pass.Given as goal

abbrev pub decreases-pass : goal.decreases-pass
decreases-pass l = length l.bytes.now
