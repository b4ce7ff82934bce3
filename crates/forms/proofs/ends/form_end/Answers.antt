use Rattle.forms.proofs.Exactly.{shape}
use Rattle.forms.proofs.Lenient.{within}
use Rattle.forms.proofs.ends.form_end.Goals as goal

pub returns-clause-within : goal.returns-clause-within
returns-clause-within c = within c.args.bytes.now c.args.at c.scan.result c.scan.ensures.found

pub returns-clause-exact : goal.returns-clause-exact
returns-clause-exact c = λ e rest left. c.scan.ensures.only _ (shape _ e _ rest left)
