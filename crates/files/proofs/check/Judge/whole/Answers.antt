use Rattle.std.proofs.Common.{arith}
use Rattle.std.proofs.lemmas.Result.{err_from_is_err_and}
use Rattle.files.specs.Judgement.{bad_form, trailing, whole}
use Rattle.files.proofs.check.Judge.whole.Goals as goal

pub returns-in_err-end : goal.returns-in_err-end
returns-in_err-end g c =
    let p = err_from_is_err_and c.from_residual.result c.from_residual.ensures.1 in
    rw (p.1, p.2) (bad_form c.in_err-end.ensures.outcome)

pub returns-then-end-self : goal.returns-then-end-self
returns-then-end-self g c = trailing c.in_ok-end.ensures.outcome.1 c.if-end-self.true

pub returns : goal.returns
returns g c = let form = c.in_ok-end.ensures.outcome in (form.0, whole form.1 (omega arith))
