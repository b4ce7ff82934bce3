use Rattle.std.proofs.Common.{◌-◌, length}
use Rattle.forms.proofs.Counting.{Scan}
use Rattle.forms.proofs.scan.scan.Given as goal

abbrev pub invariant-loop-open : goal.invariant-loop-open
invariant-loop-open g l = Scan (g.R.Rule.Stands l.bytes) l.bytes l.at l.open l.end

abbrev pub decreases-loop-open : goal.decreases-loop-open
decreases-loop-open g l = length l.bytes - l.end
