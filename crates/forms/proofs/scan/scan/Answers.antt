use Rattle.std.proofs.Common.{Some, sym, ap, arith}
use Rattle.forms.proofs.Counting.{starts, done, nowhere, passes_split, passes_alone}
use Rattle.forms.proofs.scan.scan.Goals as goal

pub loop-open-init : goal.loop-open-init
loop-open-init g c = starts

pub returns-in_err-command-clause-only : goal.returns-in_err-command-clause-only
returns-in_err-command-clause-only g c = λ e form. absurd (nowhere c.loop-open.invariant (omega arith) c.in_err-command.ensures e form)

pub loop-open-preserved-then-is_split : goal.loop-open-preserved-then-is_split
loop-open-preserved-then-is_split g c =
    let command = c.in_ok-command.ensures in
    passes_split c.loop-open.invariant (omega arith) _ _ command.0 command.1 (g.met.R.Rule.whole _ _ command.1) c.width-end.ensures (sym c.if-is_split.ensures)

pub loop-open-preserved : goal.loop-open-preserved
loop-open-preserved g c =
    let command = c.in_ok-command.ensures in
    passes_alone c.loop-open.invariant (omega arith) _ _ command.0 command.1 (g.met.R.Rule.whole _ _ command.1) c.width-end.ensures (sym c.if-is_split.ensures)

pub returns : goal.returns
returns g c =
    let ended = done c.loop-open.invariant (omega arith) in
    record { found = ended.0; only = λ e form. ap Some (ended.1 e form) }
