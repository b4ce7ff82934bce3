use Rattle.std.proofs.Common.{take}
use Rattle.std.specs.Fmt.{HasWritten, IsPlainFormatter}
use Rattle.std.specs.List.{flat_map}
use Rattle.engine.specs.Stands.{state_of}
use Rattle.journals.specs.Lines.{event_line}
use Rattle.journals.proofs.standing.EventsDisplay.fmt.Given as goal

-- the lines of the events so far are written
abbrev pub invariant-loop-number : goal.invariant-loop-number
invariant-loop-number g l = IsPlainFormatter l.initial.f → HasWritten g.W.Write.write_str_gives l.initial.f (flat_map event_line (take l.number (state_of l.run.plain).events)) l.f
