use Rattle.std.proofs.lemmas.Result.{err_from_is_err_and}
use Rattle.std.proofs.lemmas.Option.{MatchOption-at_none, MatchOption-at_some}
use Rattle.files.specs.Judgement.{bad_command}
use Rattle.files.proofs.Formwise.{form_alone, left_fault, then_right}
use Rattle.files.proofs.check.Judge.+form.Goals as goal

pub returns-in_err-parts-clause-outcome : goal.returns-in_err-parts-clause-outcome
returns-in_err-parts-clause-outcome g t c =
    let p = err_from_is_err_and c.from_residual.result c.from_residual.ensures.1 in
    rw (p.1, p.2) (bad_command c.in_err-parts.ensures.judged)

pub returns-in_default-clause-outcome : goal.returns-in_default-clause-outcome
returns-in_default-clause-outcome g t c =
    let alone = MatchOption-at_none _ _ c.in_default.is c.in_ok-parts.ensures.judged in
    (alone.0, form_alone _ _ _ _ _ _ c.width.ensures alone.1)

pub returns-in_err-middle-clause-outcome : goal.returns-in_err-middle-clause-outcome
returns-in_err-middle-clause-outcome g t c =
    let p = err_from_is_err_and c.from_residual-in_err-middle.result c.from_residual-in_err-middle.ensures.1 in
    let both = MatchOption-at_some _ _ _ c.in-Some.is c.in_ok-parts.ensures.judged in
    rw (p.1, p.2) (left_fault _ _ _ _ _ _ c.width.ensures {make = both.0} both.1 c.in_err-middle.ensures.outcome)

pub returns-clause-outcome : goal.returns-clause-outcome
returns-clause-outcome g t c =
    let both = MatchOption-at_some _ _ _ c.in-Some.is c.in_ok-parts.ensures.judged in
    then_right _ _ _ _ _ _ c.width.ensures both.1 c.in_ok-middle.ensures.outcome.1 c.form-2.result c.form-2.ensures.outcome
