use Rattle.std.proofs.Common.{◌∙◌, ap, drop, length, arith}
use Rattle.std.proofs.lemmas.Slice.{between_to_end}
use Rattle.places.proofs.Passing.{rest_told}
use Rattle.places.proofs.due.behind_form.Goals as goal

pub returns-clause-behind : goal.returns-clause-behind
returns-clause-behind c =
    let bs = c.args.bytes.now in
    between_to_end bs c.unwrap_or-end.result (length bs) (omega arith)
    ∙ ap (λ n. drop n bs) c.unwrap_or-end.ensures
    ∙ rest_told bs c.form_end.result c.form_end.ensures.found c.form_end.ensures.only
