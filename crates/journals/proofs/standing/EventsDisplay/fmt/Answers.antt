use Rattle.std.proofs.Common.{rules, ◌≡◌, Some}
use Rattle.std.proofs.Output.{has_written_append, has_written_of_eq}
use Rattle.std.specs.Fmt.{HasWritten}
use Rattle.engine.specs.Stands.{state_of}
use Rattle.events.specs.Events.{entry_of}
use Rattle.orc.specs.Expressions.{entry}
use Rattle.journals.specs.Lines.{event_line}
use Rattle.journals.proofs.Writing.{entry_more, all_written}
use Rattle.journals.proofs.standing.EventsDisplay.fmt.Goals as goal

pub loop-number-init : goal.loop-number-init
loop-number-init g c = search rules

pub loop-number-preserved : goal.loop-number-preserved
loop-number-preserved g c = λ plain.
    let events = (state_of c.args.self.now.0.now.plain).events in
    let i = c.loop-number.number in
    let is : Some (entry_of c.unwrap.result) ≡ entry events i = search rules in
    let this : HasWritten g.W.Write.write_str_gives c.loop-number.f (event_line (entry_of c.unwrap.result)) c.write.new.self = search rules in
    has_written_of_eq _ _ _ _ _ (entry_more event_line events i (entry_of c.unwrap.result) is) (has_written_append _ _ _ _ _ _ (c.loop-number.invariant plain) this)

pub returns-clause-writes : goal.returns-clause-writes
returns-clause-writes g c = λ plain _.
    let events = (state_of c.args.self.now.0.now.plain).events in
    has_written_of_eq _ _ _ _ _ (all_written event_line events c.loop-number.number (search rules)) (c.loop-number.invariant plain)
