use Rattle.std.proofs.lemmas.Result.{err_from_is_err_and}
use Rattle.files.specs.Judgement.{bad_head, bad_body, defines}
use Rattle.files.proofs.Formwise.{body_there}
use Rattle.files.proofs.check.Judge.definition.Goals as goal

pub returns-in_err-formal : goal.returns-in_err-formal
returns-in_err-formal g c =
    let p = err_from_is_err_and c.from_residual.result c.from_residual.ensures.1 in
    rw (p.1, p.2) (record { end = tt; outcome = bad_head c.in_err-formal.ensures.rules })

pub returns-in_err-whole : goal.returns-in_err-whole
returns-in_err-whole g c =
    let p = err_from_is_err_and c.from_residual-in_err-whole.result c.from_residual-in_err-whole.ensures.1 in
    let head = c.in_ok-formal.ensures in
    rw (p.1, p.2) (record { end = tt; outcome = bad_body head.rules (body_there _ _ _ _ c.in_err-whole.ensures head.head.1 head.head.0 c.empty.ensures assumption) })

pub returns : goal.returns
returns g c =
    let head = c.in_ok-formal.ensures in
    let body = c.in_ok-whole.ensures in
    record { end = (head.head.1, head.head.2); outcome = (_, defines head.rules (body_there _ _ _ _ body.1 head.head.1 head.head.0 c.empty.ensures assumption)) }
