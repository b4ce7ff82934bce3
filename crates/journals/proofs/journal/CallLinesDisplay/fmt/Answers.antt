use Rattle.std.proofs.Common.{rules, get_or, map, ap, Ok}
use Rattle.std.proofs.Output.{has_written_append, has_written_of_eq}
use Rattle.std.proofs.lemmas.List.{take_all}
use Rattle.std.specs.Fmt.{HasWritten}
use Rattle.runs.specs.declared.call.Call.TheVariants.{Go}
use Rattle.journals.specs.declared.line.CallLine.{CallLine}
use Rattle.journals.specs.Lines.{call_line, call_lines}
use Rattle.journals.specs.Journals.{pair_of}
use Rattle.journals.proofs.Writing.{line_more}
use Rattle.journals.proofs.journal.CallLinesDisplay.fmt.Goals as goal

abbrev none : CallLine
none = record { call = Go 0; response = Ok tt }

pub loop-line-init : goal.loop-line-init
loop-line-init g c = search rules

pub loop-line-preserved : goal.loop-line-preserved
loop-line-preserved g c = λ plain.
    let lines = c.args.self.now.0.now in
    let line = get_or lines c.loop-line.line-index none in
    let this : HasWritten g.W.Write.write_str_gives c.loop-line.f (call_line line.call line.response) c.write.new.self = search rules in
    has_written_of_eq _ _ _ _ _ (line_more lines c.loop-line.line-index none c.loop-line-test.true) (has_written_append _ _ _ _ _ _ (c.loop-line.invariant plain) this)

pub returns-clause-writes : goal.returns-clause-writes
returns-clause-writes g c = λ plain _.
    has_written_of_eq _ _ _ _ _ (ap (λ ls. call_lines (map pair_of ls)) (take_all c.loop-line.line-index c.args.self.now.0.now c.loop-line-test.false)) (c.loop-line.invariant plain)
