use Rattle.std.proofs.Common.{◌-◌, length}
use Rattle.files.proofs.check.Judge.+form.Given as goal

abbrev pub decreases-form : goal.decreases-form
decreases-form g l = length l.self.now.bytes.now - l.at
