use Rattle.std.proofs.Common.{Some, ap, ◌∙◌, subst, ℕ, ◌<◌, ◌≤◌, length}
use Rattle.forms.specs.Shapes.{FormAt}
use Rattle.forms.proofs.Halves.{ends_once}
use Rattle.forms.proofs.Telling.{told_at_front}
use Rattle.forms.proofs.form.Form.end.Goals as goal

pub returns-then-told-self-clause-found : goal.returns-then-told-self-clause-found
returns-then-told-self-clause-found c =
    let form = c.args.self in
    told_at_front form.bytes.now form.lengths.now form.told c.length_at-told.result c.length_at-told.ensures c.if-told-gt0.true c.if-told-self.true

pub returns-then-told-self-clause-only : goal.returns-then-told-self-clause-only
returns-then-told-self-clause-only c =
    let form = c.args.self in
    λ end there. ap Some (ends_once (told_at_front form.bytes.now form.lengths.now form.told c.length_at-told.result c.length_at-told.ensures c.if-told-gt0.true c.if-told-self.true) there)
