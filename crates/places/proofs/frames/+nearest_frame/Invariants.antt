use Rattle.std.proofs.Common.{length}
use Rattle.places.proofs.frames.+nearest_frame.Given as goal

abbrev pub decreases-nearest_frame : goal.decreases-nearest_frame
decreases-nearest_frame l = length l.form.bytes.now
