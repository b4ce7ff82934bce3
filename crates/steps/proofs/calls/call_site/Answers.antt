use Rattle.std.proofs.Common.{arith}
use Rattle.orc.specs.Expressions.{pending, bytes}
use Rattle.steps.specs.Built.{Built}
use Rattle.steps.specs.Sections.{replaced}
use Rattle.steps.proofs.Building.{built_in_place, unbuilt_in_place}
use Rattle.steps.proofs.Calling.{five_there, site_made, site_unmade}
use Rattle.steps.proofs.calls.call_site.Goals as goal

pub returns-in_err-due : goal.returns-in_err-due
returns-in_err-due c = rw c.from_residual.ensures (λ ds a bs' m. absurd (omega (arith, five_there c.args.form.bytes.now c.args.place m.is_due, c.in_err-due.ensures)))

pub returns-in_err-form : goal.returns-in_err-form
returns-in_err-form c =
    let call = c.args.call in
    let new = bytes (pending call.ticket call.site call.value call.clock) in
    let done : Built c.replaced.result (replaced c.in_ok-due.due new) = rw (← c.to_bytes.ensures) c.replaced.ensures in
    let long = unbuilt_in_place c.in_ok-due.ensures c.replaced.result new done c.in_err-form.ensures.value in
    rw c.from_residual-in_err-form.ensures (λ ds. site_unmade ds call.clock call.ticket c.args.form.bytes.now c.args.place call.site call.value c.requires long)

pub returns : goal.returns
returns c ds =
    let call = c.args.call in
    let new = bytes (pending call.ticket call.site call.value call.clock) in
    let done : Built c.replaced.result (replaced c.in_ok-due.due new) = rw (← c.to_bytes.ensures) c.replaced.ensures in
    site_made ds call.clock call.ticket c.args.form.bytes.now c.args.place call.site call.value c.requires (built_in_place c.in_ok-due.ensures c.replaced.result new done c.in_ok-form.ensures.value)
