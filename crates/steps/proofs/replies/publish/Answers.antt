use Rattle.std.proofs.Common.{[], ◌∷◌, length, None, sym, ap, subst, arith}
use Rattle.orc.specs.Steps.{out}
use Rattle.steps.specs.Replied.{Replied, publishes}
use Rattle.steps.proofs.Building.{built_in_place}
use Rattle.steps.proofs.replies.publish.Goals as goal

pub returns : goal.returns
returns c =
    let there = c.in_ok-call.ensures in
    let made = built_in_place there c.replaced.result (0 ∷ []) c.replaced.ensures c.in_ok-form.ensures.value in
    subst (Replied c.args.form.bytes.now c.args.place c.args.value None (out c.args.value) None) (sym made) (publishes (omega (arith, there.end, ap length there.form)))
