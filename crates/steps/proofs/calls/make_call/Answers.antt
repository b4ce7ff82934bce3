use Rattle.std.proofs.Common.{arith}
use Rattle.steps.proofs.Calling.{five_there}
use Rattle.steps.proofs.calls.make_call.Goals as goal

pub returns-in_err-form_at : goal.returns-in_err-form_at
returns-in_err-form_at c =
    let past = c.in_err-form_at.ensures in
    rw c.from_residual.ensures (λ a bs' m. let five = five_there c.args.form.bytes.now c.args.place m.is_due in absurd (omega arith))
