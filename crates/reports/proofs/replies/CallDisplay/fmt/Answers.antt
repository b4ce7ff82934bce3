use Rattle.std.proofs.Common.{rules, sym, append_assoc}
use Rattle.std.proofs.Output.{has_written_of_eq, has_written_append}
use Rattle.reports.proofs.replies.CallDisplay.fmt.Goals as goal

pub returns-then-silent-clause-writes : goal.returns-then-silent-clause-writes
returns-then-silent-clause-writes g c plain ok =
    let first = c.write.ensures.writes plain (search rules) in
    has_written_of_eq _ _ _ _ _ (simp (append_assoc, sym c.knows.ensures, c.if-not-knows.false, sym c.silent.ensures, c.if-silent.true, c.window_count-count.ensures)) (has_written_append _ _ _ _ _ _ first (c.writeln-then-silent.ensures.writes first.plain ok))

pub returns-else-silent-clause-writes : goal.returns-else-silent-clause-writes
returns-else-silent-clause-writes g c plain ok =
    let first = c.write.ensures.writes plain (search rules) in
    has_written_of_eq _ _ _ _ _ (simp (append_assoc, sym c.knows.ensures, c.if-not-knows.false, sym c.silent.ensures, c.if-silent.false, c.window_count-count.ensures)) (has_written_append _ _ _ _ _ _ first (c.writeln-else-silent.ensures.writes first.plain ok))
