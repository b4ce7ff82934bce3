use Rattle.std.proofs.Common.{Some, None, sym, ◌∙◌}
use Rattle.std.proofs.lemmas.List.{set-get_or}
use Rattle.engine.specs.Stands.{state_of}
use Rattle.controllers.specs.Shown.{events_of}
use Rattle.controllers.proofs.Laying.{laid_next}
use Rattle.controllers.proofs.event.write_events.Goals as goal
use Rattle.controllers.proofs.event.write_events.Goals.{in-Some, in_default}

pub loop-number-preserved : goal.loop-number-preserved
loop-number-preserved g c =
    let next = laid_next (events_of (state_of c.args.run.now.plain)) c.args.events.now c.loop-number.events c.match-recorded.events c.loop-number.number in
    elim c.match-recorded.branch [
      | in-Some w ↦ next (Some w.in-Some.event) c.loop-number.invariant c.loop-number-test.true (sym w.in-Some.is ∙ c.recorded.ensures) w.events-is
      | in_default w ↦ next None c.loop-number.invariant c.loop-number-test.true (sym w.in_default.is ∙ c.recorded.ensures) (w.events-is ∙ set-get_or c.loop-number.events c.loop-number.number _)
    ]
