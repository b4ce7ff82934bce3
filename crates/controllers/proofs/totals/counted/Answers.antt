use Rattle.std.proofs.Common.{rules, ◌≡◌, Some, ◌∙◌, ap}
use Rattle.orc.specs.Expressions.{entry}
use Rattle.engine.specs.Stands.{state_of}
use Rattle.controllers.specs.Shown.{all_totals}
use Rattle.controllers.proofs.Counting.{counted_there, counted_past}
use Rattle.controllers.proofs.totals.counted.Goals as goal

pub returns-in_err-ok : goal.returns-in_err-ok
returns-in_err-ok g c = search (rules, counted_past)

pub returns-in_err-totals : goal.returns-in_err-totals
returns-in_err-totals g c = search (rules, counted_past)

pub returns : goal.returns
returns g c =
    let s = state_of c.args.run.now.plain in
    let same : c.in_ok-ok.field-0 ≡ c.args.site = search rules in
    let read = c.in_ok-totals.ensures in
    ap Some c.from.ensures ∙ (counted_there s c.in_ok-ok.field-0 c.in_ok-totals.totals read.0 read.1 ∙ ap (λ n. entry (all_totals s) n) same)
