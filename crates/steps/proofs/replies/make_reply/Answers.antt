use Rattle.std.proofs.Common.{subst}
use Rattle.steps.specs.Outcomes.{ReplyOutcome}
use Rattle.steps.proofs.Framing.{frame_is_form}
use Rattle.steps.proofs.replies.make_reply.Goals as goal

pub returns-in-Some : goal.returns-in-Some
returns-in-Some c form =
    let bs = c.args.form.bytes.now in
    let is = c.in-Some.ensures.frame form in
    subst (λ o. ReplyOutcome bs c.args.place c.args.value o c.hand_over.result) is (c.hand_over.ensures (frame_is_form bs c.args.place c.in-Some.stretch form is))
