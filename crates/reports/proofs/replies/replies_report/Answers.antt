use Rattle.std.proofs.Common.{Ok, string_bytes, subst}
use Rattle.std.proofs.lemmas.Result.{IfOk-weaker}
use Rattle.orc.specs.Meaning.{Meaning}
use Rattle.reports.specs.Replies.{replies_line}
use Rattle.reports.specs.Verdicts.{Begins}
use Rattle.reports.proofs.replies.replies_report.Goals as goal

pub returns-in-Ok : goal.returns-in-Ok
returns-in-Ok c =
    let host = c.in-Ok.ensures in
    let line = λ (m : Meaning). replies_line m c.args.site c.args.value in
    IfOk-weaker c.report.result _ _ (λ t told. (Ok host.0, host.1, told.0, subst (λ (m : Meaning). Begins (line m) (string_bytes t.text)) host.2 told.1)) c.report.ensures
