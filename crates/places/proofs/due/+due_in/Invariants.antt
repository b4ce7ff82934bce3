use Rattle.std.proofs.Common.{length}
use Rattle.places.proofs.due.+due_in.Given as goal

abbrev pub decreases-due_in : goal.decreases-due_in
decreases-due_in l = length l.bytes.now
