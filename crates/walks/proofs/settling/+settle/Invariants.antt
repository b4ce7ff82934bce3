use Rattle.std.proofs.Common.{length}
use Rattle.walks.proofs.settling.+settle.Given as goal

abbrev pub decreases-settle : goal.decreases-settle
decreases-settle g l = length l.form.bytes.now
