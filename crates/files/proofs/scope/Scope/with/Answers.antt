use Rattle.files.proofs.Bits.{bit_added}
use Rattle.files.proofs.scope.Scope.with.Goals as goal

pub returns : goal.returns
returns c = bit_added c.args.self.bound c.args.variable.number c.args.variable.small
