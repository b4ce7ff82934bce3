use Rattle.std.proofs.Common.{rules, get_or}
use Rattle.std.proofs.Output.{has_written_append, has_written_of_eq}
use Rattle.std.specs.Fmt.{HasWritten}
use Rattle.journals.specs.Lines.{byte_text}
use Rattle.journals.proofs.Writing.{one_more, all_written}
use Rattle.journals.proofs.line.HexDisplay.fmt.Goals as goal

pub loop-byte-init : goal.loop-byte-init
loop-byte-init g c = search rules

pub loop-byte-preserved : goal.loop-byte-preserved
loop-byte-preserved g c = λ plain.
    let bytes = c.args.self.now.0.now in
    let i = c.loop-byte.byte-index in
    let this : HasWritten g.W.Write.write_str_gives c.loop-byte.f (byte_text (get_or bytes i 0)) c.write_byte.new.f = search rules in
    has_written_of_eq _ _ _ _ _ (one_more byte_text bytes i 0 c.loop-byte-test.true) (has_written_append _ _ _ _ _ _ (c.loop-byte.invariant plain) this)

pub returns-clause-writes : goal.returns-clause-writes
returns-clause-writes g c = λ plain _. has_written_of_eq _ _ _ _ _ (all_written byte_text c.args.self.now.0.now c.loop-byte.byte-index c.loop-byte-test.false) (c.loop-byte.invariant plain)
