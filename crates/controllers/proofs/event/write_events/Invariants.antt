use Rattle.std.proofs.Common.{◌≡◌}
use Rattle.engine.specs.Stands.{state_of}
use Rattle.controllers.specs.Shown.{events_of}
use Rattle.controllers.proofs.Laying.{laid_to}
use Rattle.controllers.proofs.event.write_events.Given as goal

-- the events so far are written over what was there
abbrev pub invariant-loop-number : goal.invariant-loop-number
invariant-loop-number g l = l.events ≡ laid_to l.number (events_of (state_of l.run.plain)) l.initial.events
