use Rattle.std.proofs.Common.{◌≡◌, take, vec_items}
use Rattle.runs.specs.Histories.{History}
use Rattle.engine.specs.Stands.{state_of}
use Rattle.plays.proofs.play.play.Given as goal

-- the calls so far are a history
abbrev pub invariant-loop-call : goal.invariant-loop-call
invariant-loop-call g l =
    (l.run.host ≡ l.initial.run.host)
    × History (g.H.Host.meaning l.initial.run.host) (state_of l.initial.run.plain) (take l.call-index l.calls) (vec_items l.responses) (state_of l.run.plain)
