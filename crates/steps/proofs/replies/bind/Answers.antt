use Rattle.std.proofs.Common.{◌≡◌, ◌+◌, ◌-◌, ◌∷◌, length, sym, refl, ap, arith}
use Rattle.orc.specs.Expressions.{bytes}
use Rattle.steps.specs.Sections.{replaced}
use Rattle.steps.specs.Instances.{instance}
use Rattle.steps.specs.Replied.{binds}
use Rattle.steps.proofs.Building.{built, unbuilt}
use Rattle.steps.proofs.Answering.{holds, unbound, stretch_long, back_form}
use Rattle.steps.proofs.replies.bind.Goals as goal

pub returns-in_err-form : goal.returns-in_err-form
returns-in_err-form c =
    let call = c.args.call in
    let long = unbuilt c.replaced.result (replaced call.frame (bytes (instance c.args.left))) c.in_err-form.ensures.value c.replaced.ensures in
    rw c.from_residual.ensures (λ form there. unbound call.frame.form.bytes.now call.place c.args.left.value call.frame.stretch there long)

pub overflow_sub-pruned : goal.overflow_sub-pruned
overflow_sub-pruned c =
    let long = stretch_long c.args.call.frame.form.bytes.now (5 ∷ c.args.left.variable ∷ c.args.left.form.bytes.now) c.args.right.bytes.now c.args.call.frame.stretch c.args.call.frame.within c.requires in
    omega (arith, ap length c.as_bytes.ensures)

pub returns : goal.returns
returns c form there =
    let call = c.args.call in
    let s = call.frame.stretch in
    let bs = call.frame.form.bytes.now in
    let right = c.args.right.bytes.now in
    let front = 5 ∷ c.args.left.variable ∷ c.args.left.form.bytes.now in
    let long = stretch_long bs front right s call.frame.within c.requires in
    let made = built c.replaced.result (replaced call.frame (bytes (instance c.args.left))) c.in_ok-form.ensures.value c.replaced.ensures in
    let ends : s.end - length c.as_bytes.result.now + length right ≡ s.end = omega (arith, ap length c.as_bytes.ensures) in
    rw made (binds s _ (holds call) (sym there) refl (back_form bs front right s call.frame.within c.requires _ refl ends form refl))
