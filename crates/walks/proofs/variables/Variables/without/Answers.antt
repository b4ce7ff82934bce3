use Rattle.std.proofs.Common.{arith}
use Rattle.walks.proofs.Frees.{held_without}
use Rattle.walks.proofs.variables.Variables.without.Goals as goal

pub returns : goal.returns
returns c x small = held_without c.args.variable (omega (arith, c.if-variable-ge-COUNT.false)) c.args.self.bits x small
