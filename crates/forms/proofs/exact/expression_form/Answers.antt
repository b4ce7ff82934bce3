use Rattle.forms.proofs.Decoding.{whole_form, judged}
use Rattle.forms.proofs.exact.expression_form.Goals as goal

pub returns-in_err-end : goal.returns-in_err-end
returns-in_err-end c = rw c.from_residual.ensures (λ e is. cc (c.in_err-end.ensures.only _ (whole_form c.args.bytes.now e is)))

pub returns : goal.returns
returns c =
    let scan = c.in_ok-end.ensures in
    rw c.then_some.ensures (judged c.args.bytes.now (λ i. (c.type_inv.bytes i).fits) c.in_ok-end.end scan.found scan.only c.new.result c.new.ensures)
