use Rattle.std.proofs.Common.{◌≤◌, length}
use Rattle.forms.specs.Lengths.{ToldFrom}
use Rattle.forms.proofs.measure.measured.Given as goal

abbrev pub invariant-loop-at : goal.invariant-loop-at
invariant-loop-at l = (l.at ≤ length l.lengths) × ToldFrom l.at l.bytes l.lengths

abbrev pub decreases-loop-at : goal.decreases-loop-at
decreases-loop-at l = l.at
