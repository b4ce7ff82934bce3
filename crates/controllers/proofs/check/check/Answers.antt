use Rattle.controllers.proofs.Judging.{judge}
use Rattle.controllers.proofs.check.check.Goals as goal

pub returns : goal.returns
returns c = judge c.args.file.now c.args.sheet.now _ c.controller-judged.result.1 c.check_file.result _ c.controller-judged.ensures c.check_file.ensures.outcome c.of.ensures c.of-2.ensures
