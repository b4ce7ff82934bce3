use Rattle.walks.proofs.Frees.{held_by_either}
use Rattle.walks.proofs.variables.Variables.and.Goals as goal

pub returns : goal.returns
returns c x = held_by_either c.args.self.bits c.args.other.bits x
