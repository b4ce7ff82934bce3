use Rattle.std.proofs.Common.{◌≡◌, Some, length, sym, ap, ◌∙◌, subst, arith}
use Rattle.orc.specs.Expressions.{bytes, size}
use Rattle.orc.specs.Simplified.{simplified}
use Rattle.orc.specs.Files.{file_bytes}
use Rattle.forms.specs.Reading.{expression_of}
use Rattle.forms.specs.Heads.{expression, IsForm}
use Rattle.files.specs.Contents.{file_of}
use Rattle.runs.proofs.Keeping.{kept_at_begin}
use Rattle.engine.proofs.Given.{given}
use Rattle.engine.proofs.Beginning.{begun_state, is_form, goal_short}
use Rattle.engine.proofs.plain.Plain.loaded.Goals as goal

pub buffer_of-requires : goal.buffer_of-requires
buffer_of-requires c = omega (arith, c.requires.well_formed.short, ap length c.requires.encoded)

pub invariant_of-simplify : goal.invariant_of-simplify
invariant_of-simplify c =
    let file = file_of c.args.file.now in
    let same = c.measured-form.ensures ∙ c.as_bytes.ensures in
    let goal : expression c.measured-form.result ≡ file.goal = ap expression_of same ∙ c.goal-goal.ensures.goal ∙ ap (λ bs. (file_of bs).goal) c.new.ensures in
    let whole : IsForm c.measured-form.result.bytes.now = subst IsForm (sym same) (c.goal-goal.ensures.whole file (c.new.ensures ∙ c.requires.encoded)) in
    record { is_form = whole; short = omega (arith, ap length whole, ap size goal, goal_short file, c.requires.well_formed.short) }

pub invariant_of-plain : goal.invariant_of-plain
invariant_of-plain c =
    let p = c.unloaded-plain.result in
    let file = file_of c.args.file.now in
    let goal : expression c.measured-form.result ≡ file.goal = ap expression_of (c.measured-form.ensures ∙ c.as_bytes.ensures) ∙ c.goal-goal.ensures.goal ∙ ap (λ bs. (file_of bs).goal) c.new.ensures in
    let form = c.simplify.ensures ∙ ap (λ e. bytes (simplified e)) goal in
    let same = c.buffer_of.ensures in
    let it =
    given (Some c.buffer_of.result) p.clock c.simplify.new.out p.issued p.events p.table
    (begun_state p c.unloaded-plain.ensures c.buffer_of.result c.simplify.new.out file (ap file_of same) form)
    (kept_at_begin c.requires.meaning file c.requires.well_formed)
    (ap Some (ap (λ bs. file_bytes (file_of bs)) same ∙ sym c.requires.encoded ∙ sym same))
    (is_form (simplified file.goal) _ form) in
    record { whole_file = it.0; whole_form = it.1; formals = it.2; bodies = it.3; fits = it.4 }

pub returns : goal.returns
returns c =
    let file = file_of c.args.file.now in
    let goal : expression c.measured-form.result ≡ file.goal = ap expression_of (c.measured-form.ensures ∙ c.as_bytes.ensures) ∙ c.goal-goal.ensures.goal ∙ ap (λ bs. (file_of bs).goal) c.new.ensures in
    begun_state c.unloaded-plain.result c.unloaded-plain.ensures c.buffer_of.result c.simplify.new.out file (ap file_of c.buffer_of.ensures) (c.simplify.ensures ∙ ap (λ e. bytes (simplified e)) goal)
