use Rattle.std.proofs.Common.{◌≡◌, ◌+◌, ◌<◌, length, sym, ap, ◌∙◌, subst, arith}
use Rattle.orc.specs.Expressions.{bytes, entry}
use Rattle.orc.specs.Variables.{substitute}
use Rattle.forms.specs.Reading.{expression_of}
use Rattle.forms.specs.Heads.{expression}
use Rattle.places.specs.Splices.{spliced}
use Rattle.walks.specs.Capacity.{capacity}
use Rattle.files.specs.Contents.{file_of}
use Rattle.files.specs.Parts.{definition_of}
use Rattle.steps.proofs.Building.{built_in_place, unbuilt_in_place}
use Rattle.steps.proofs.Calling.{five_there, definition_made, definition_missing, definition_unmade}
use Rattle.steps.proofs.calls.unfold.Goals as goal

pub returns-in_err-due : goal.returns-in_err-due
returns-in_err-due c = rw c.from_residual.ensures (λ t k a bs' m. absurd (omega (arith, five_there c.args.form.bytes.now c.args.place m.is_due, c.in_err-due.ensures)))

pub returns-in_err-formal : goal.returns-in_err-formal
returns-in_err-formal c =
    let ds = (file_of c.args.contents.bytes.now).definitions in
    let none = c.in_err-formal.ensures.found ∙ ap (entry ds) c.from.ensures in
    rw c.from_residual-in_err-formal.ensures (λ t k a bs' m. absurd (definition_missing ds t k c.args.form.bytes.now c.args.place c.args.number c.args.value c.requires none m))

pub returns-in_err-form : goal.returns-in_err-form
returns-in_err-form c =
    let ds = (file_of c.args.contents.bytes.now).definitions in
    let d = definition_of c.in_ok-formal.field-0 in
    let found = c.in_ok-formal.ensures.found ∙ ap (entry ds) c.from.ensures in
    let new = bytes (substitute c.args.value d.formal (expression c.measured.result)) in
    let long = unbuilt_in_place c.in_ok-due.ensures c.replaced.result new c.replaced.ensures c.in_err-form.ensures.value in
    let same : expression c.measured.result ≡ d.body = ap expression_of (c.measured.ensures ∙ c.as_bytes.ensures) in
    rw c.from_residual-in_err-form.ensures (λ t k. definition_unmade ds t k c.args.form.bytes.now c.args.place c.args.number c.args.value c.requires d found
    (subst (λ e. capacity < length (spliced c.args.form.bytes.now c.args.place (c.args.place + 5) (bytes (substitute c.args.value d.formal e)))) same long))

pub returns : goal.returns
returns c t k =
    let ds = (file_of c.args.contents.bytes.now).definitions in
    let d = definition_of c.in_ok-formal.field-0 in
    let found = c.in_ok-formal.ensures.found ∙ ap (entry ds) c.from.ensures in
    let new = bytes (substitute c.args.value d.formal (expression c.measured.result)) in
    let same : expression c.measured.result ≡ d.body = ap expression_of (c.measured.ensures ∙ c.as_bytes.ensures) in
    let made = built_in_place c.in_ok-due.ensures c.replaced.result new c.replaced.ensures c.in_ok-form.ensures.value in
    definition_made ds t k c.args.form.bytes.now c.args.place c.args.number c.args.value c.requires d (sym found) (made ∙ ap (λ e. spliced c.args.form.bytes.now c.args.place (c.args.place + 5) (bytes (substitute c.args.value d.formal e))) same)
