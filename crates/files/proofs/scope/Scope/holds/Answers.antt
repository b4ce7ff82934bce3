use Rattle.files.proofs.Bits.{bit_read}
use Rattle.files.proofs.scope.Scope.holds.Goals as goal

pub returns : goal.returns
returns c = bit_read c.args.self.bound c.args.variable.number
