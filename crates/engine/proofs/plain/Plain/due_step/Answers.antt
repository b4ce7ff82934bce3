use Rattle.std.proofs.Common.{is_some, sym, ap, ◌∙◌, subst, arith}
use Rattle.std.proofs.lemmas.Option.{MatchOption-at_some}
use Rattle.std.proofs.lemmas.Result.{err_from_is_err_and}
use Rattle.walks.specs.Contents.{content}
use Rattle.runs.specs.declared.call.Call.TheVariants.{Go}
use Rattle.runs.specs.Outcomes.{Refuses, is_not_loaded}
use Rattle.engine.specs.Stands.{state_of}
use Rattle.events.specs.Acts.{act_of}
use Rattle.engine.proofs.Given.{there_is}
use Rattle.engine.proofs.Recorded.{event_count}
use Rattle.engine.proofs.Transits.{none_due, go_full, always_made, go_move}
use Rattle.engine.proofs.plain.Plain.due_step.Goals as goal

pub returns-in_err-file : goal.returns-in_err-file
returns-in_err-file c =
    let none = c.in_err-file.ensures in
    let e = err_from_is_err_and c.from_residual.result c.from_residual.ensures.1 in
    rw e.1 (λ m. subst (Refuses m (state_of c.args.self.now) (Go c.args.n)) (sym (e.2 ∙ none.0)) (is_not_loaded (ap is_some none.1)))

pub returns-in_default : goal.returns-in_default
returns-in_default c = none_due c.args.self.now (ap is_some c.in_ok-file.ensures) c.args.n c.standing.result.form.bytes.now c.standing.ensures c.due_count.result c.in_default.ensures.found c.due_count.ensures.count

pub returns-then-is_full : goal.returns-then-is_full
returns-then-is_full c = go_full c.args.self.now (ap is_some c.in_ok-file.ensures) c.args.n c.standing.result.form.bytes.now c.standing.ensures c.in-Some.place c.in-Some.ensures.place (omega (arith, c.if-is_full.ensures, event_count c.args.self.now.events))

pub unwrap-requires : goal.unwrap-requires
unwrap-requires c =
    there_is _ c.make_call.result c.make_call.ensures (always_made c.args.self.now (ap is_some c.in_ok-file.ensures) c.args.n c.standing.result.form.bytes.now c.standing.ensures c.in-Some.place c.in-Some.ensures.place c.in_ok-file.file.now c.in_ok-file.ensures c.new-contents.result.bytes.now (c.new-contents.ensures ∙ c.as_slice.ensures))

pub returns : goal.returns
returns c =
    let step = c.unwrap.result in
    go_move c.args.self.now (ap is_some c.in_ok-file.ensures) c.args.n c.standing.result.form.bytes.now c.standing.ensures c.in-Some.place c.in-Some.ensures.place c.in_ok-file.file.now c.in_ok-file.ensures c.new-contents.result.bytes.now (c.new-contents.ensures ∙ c.as_slice.ensures) (act_of step.act) (content step.form.now) (omega (arith, c.if-is_full.ensures, event_count c.args.self.now.events)) (MatchOption-at_some _ _ step c.unwrap.ensures c.make_call.ensures)
