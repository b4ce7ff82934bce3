use Rattle.std.proofs.Common.{length}
use Rattle.walks.proofs.copies.+put.Given as goal

abbrev pub decreases-put : goal.decreases-put
decreases-put l = length l.form.bytes.now
