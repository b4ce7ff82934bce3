use Rattle.forms.specs.Heads.{expression}
use Rattle.walks.proofs.Unlapsed.{nothing_lapses}
use Rattle.walks.proofs.settling.simplify_into.Goals as goal

pub returns : goal.returns
returns c = rw (nothing_lapses 0 (expression c.args.form)) at c.settle_into.ensures
