use Rattle.std.proofs.Common.{Some, None, sym, subst}
use Rattle.orc.specs.Steps.{inner}
use Rattle.steps.specs.Sections.{replaced}
use Rattle.steps.specs.Framings.{beside}
use Rattle.steps.specs.Replied.{Replied, spawns}
use Rattle.steps.proofs.Building.{built, unbuilt}
use Rattle.steps.proofs.Answering.{holds, unspawned}
use Rattle.steps.proofs.replies.spawn.Goals as goal

pub returns-in_err-form : goal.returns-in_err-form
returns-in_err-form c =
    let call = c.args.call in
    let long = unbuilt c.replaced.result (replaced call.frame (beside (record { call = call; copy = c.args.copy }))) c.in_err-form.ensures.value c.replaced.ensures in
    rw c.from_residual.ensures (λ f there. unspawned call.frame.form.bytes.now call.place c.args.copy.value call.frame.stretch there long)

pub returns : goal.returns
returns c f there =
    let call = c.args.call in
    let s = call.frame.stretch in
    let made = built c.replaced.result (replaced call.frame (beside (record { call = call; copy = c.args.copy }))) c.in_ok-form.ensures.value c.replaced.ensures in
    subst (Replied call.frame.form.bytes.now call.place c.args.copy.value (Some s) inner None) (sym made) (spawns s (holds call) (sym there))
