use Rattle.std.proofs.Common.{◌≡◌, ◌+◌, ◌⊎◌, is_some, sym, ap, ◌∙◌, subst, inl, inr, arith}
use Rattle.std.proofs.lemmas.Result.{err_from_is_err_and}
use Rattle.orc.specs.Calls.{due_count}
use Rattle.runs.specs.declared.call.Call.TheVariants.{Wait}
use Rattle.runs.specs.Outcomes.{Refuses, is_not_loaded}
use Rattle.engine.specs.Stands.{state_of}
use Rattle.engine.proofs.Passes.{due_first, none_due, late_one, past_end, can_pass}
use Rattle.engine.proofs.plain.Plain.check_wait.Goals as goal
use Rattle.engine.proofs.plain.Plain.check_wait.Goals.{else-ticks-gt0-via-then-ticks-gt0+else-due-gt0, else-ticks-gt0-via-else-ticks-gt0}

pub returns-in_err-loaded_file : goal.returns-in_err-loaded_file
returns-in_err-loaded_file g c =
    let none = c.in_err-loaded_file.ensures in
    let e = err_from_is_err_and c.from_residual.result c.from_residual.ensures.1 in
    rw e.1 (subst (Refuses (g.H.Host.meaning c.args.host.now) (state_of c.args.self.now) (Wait c.args.ticks)) (sym (e.2 ∙ none.0)) (is_not_loaded (ap is_some none.1)))

pub returns-then-due-gt0 : goal.returns-then-due-gt0
returns-then-due-gt0 g c =
    due_first (g.H.Host.meaning c.args.host.now) c.args.self.now c.args.ticks (ap is_some c.in_ok-loaded_file.ensures) c.standing-standing.result.form.bytes.now c.standing-standing.ensures c.due_count-due.result c.due_count-due.ensures.count c.if-ticks-gt0.true c.if-due-gt0.true

pub returns-in-Some : goal.returns-in-Some
returns-in-Some g c =
    let m = g.H.Host.meaning c.args.host.now in
    let p = c.args.self.now in
    let bs = c.standing-standing.result.form.bytes.now in
    let same = c.standing-standing.ensures in
    let due = c.due_count-due.result in
    let idle : (c.args.ticks ≡ 0) ⊎ (due_count (state_of p).expression ≡ 0) =
    elim c.else-ticks-gt0.branch [
      | else-ticks-gt0-via-then-ticks-gt0+else-due-gt0 w ↦ inr (none_due m p c.args.ticks (ap is_some c.in_ok-loaded_file.ensures) bs same due c.due_count-due.ensures.count w.if-due-gt0.false)
      | else-ticks-gt0-via-else-ticks-gt0 w ↦ inl (omega (arith, w.if-ticks-gt0.false))
    ] in
    let found = c.in-Some.ensures in
    late_one m p c.args.ticks (ap is_some c.in_ok-loaded_file.ensures) bs same due c.due_count-due.ensures.count idle (c.from.result + c.from-2.result) (omega (arith, c.from.ensures, c.from-2.ensures)) c.in-Some.ticket found.0 found.1 found.2

pub returns-then-tick-gt-LAST_CLOCK : goal.returns-then-tick-gt-LAST_CLOCK
returns-then-tick-gt-LAST_CLOCK g c =
    let m = g.H.Host.meaning c.args.host.now in
    let p = c.args.self.now in
    let bs = c.standing-standing.result.form.bytes.now in
    let same = c.standing-standing.ensures in
    let due = c.due_count-due.result in
    let idle : (c.args.ticks ≡ 0) ⊎ (due_count (state_of p).expression ≡ 0) =
    elim c.else-ticks-gt0.branch [
      | else-ticks-gt0-via-then-ticks-gt0+else-due-gt0 w ↦ inr (none_due m p c.args.ticks (ap is_some c.in_ok-loaded_file.ensures) bs same due c.due_count-due.ensures.count w.if-due-gt0.false)
      | else-ticks-gt0-via-else-ticks-gt0 w ↦ inl (omega (arith, w.if-ticks-gt0.false))
    ] in
    past_end m p c.args.ticks (ap is_some c.in_ok-loaded_file.ensures) bs same due c.due_count-due.ensures.count idle (c.from.result + c.from-2.result) (omega (arith, c.from.ensures, c.from-2.ensures)) c.in_default.ensures c.if-tick-gt-LAST_CLOCK.true

pub returns : goal.returns
returns g c =
    let m = g.H.Host.meaning c.args.host.now in
    let p = c.args.self.now in
    let bs = c.standing-standing.result.form.bytes.now in
    let same = c.standing-standing.ensures in
    let due = c.due_count-due.result in
    let idle : (c.args.ticks ≡ 0) ⊎ (due_count (state_of p).expression ≡ 0) =
    elim c.else-ticks-gt0.branch [
      | else-ticks-gt0-via-then-ticks-gt0+else-due-gt0 w ↦ inr (none_due m p c.args.ticks (ap is_some c.in_ok-loaded_file.ensures) bs same due c.due_count-due.ensures.count w.if-due-gt0.false)
      | else-ticks-gt0-via-else-ticks-gt0 w ↦ inl (omega (arith, w.if-ticks-gt0.false))
    ] in
    can_pass m p c.args.ticks (ap is_some c.in_ok-loaded_file.ensures) bs same due c.due_count-due.ensures.count idle (c.from.result + c.from-2.result) (omega (arith, c.from.ensures, c.from-2.ensures)) c.in_default.ensures c.if-tick-gt-LAST_CLOCK.false
