use Rattle.std.proofs.Common.{ap, ◌∙◌}
use Rattle.orc.specs.Expressions.{entry}
use Rattle.engine.proofs.Recorded.{got_at}
use Rattle.engine.proofs.run.Run.form_byte.Goals as goal

pub returns : goal.returns
returns g c = c.copied.ensures ∙ got_at c.form.result.now c.args.offset c.get.result c.get.ensures.lookup.3 ∙ ap (λ l. entry l c.args.offset) c.form.ensures
