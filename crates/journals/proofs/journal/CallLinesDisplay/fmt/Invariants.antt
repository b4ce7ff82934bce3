use Rattle.std.proofs.Common.{take, map}
use Rattle.std.specs.Fmt.{HasWritten, IsPlainFormatter}
use Rattle.journals.specs.Lines.{call_lines}
use Rattle.journals.specs.Journals.{pair_of}
use Rattle.journals.proofs.journal.CallLinesDisplay.fmt.Given as goal

-- the lines so far are written
abbrev pub invariant-loop-line : goal.invariant-loop-line
invariant-loop-line g l = IsPlainFormatter l.initial.f → HasWritten g.W.Write.write_str_gives l.initial.f (call_lines (map pair_of (take l.line-index l.line-items))) l.f
