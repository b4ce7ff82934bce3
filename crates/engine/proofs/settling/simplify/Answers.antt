use Rattle.forms.specs.Reading.{expression_of}
use Rattle.walks.proofs.Unlapsed.{nothing_lapses}
use Rattle.engine.proofs.settling.simplify.Goals as goal

pub returns : goal.returns
returns c = rw (nothing_lapses 0 (expression_of c.args.left.form.bytes.now)) at c.settle.ensures
