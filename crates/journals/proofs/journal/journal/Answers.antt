use Rattle.std.proofs.Common.{rules, ◌≡◌, Ok, vec_items, string_bytes}
use Rattle.std.proofs.lemmas.Result.{IfOk-weaker, IfOk-at_ok}
use Rattle.std.specs.Str.Lines.{lines}
use Rattle.engine.specs.Stands.{state_of}
use Rattle.plays.specs.Plays.{Plays}
use Rattle.scripts.specs.Scripts.{Reads}
use Rattle.journals.specs.Journals.{Pictured}
use Rattle.journals.proofs.Reported.{told_is_journal, refused_is_journal}
use Rattle.journals.proofs.journal.journal.Goals as goal

pub returns-in-Ok : goal.returns-in-Ok
returns-in-Ok g c =
    let m = g.H.Host.meaning c.args.host in
    let script = c.in_ok-script.script in
    let played = c.in_ok-played.played in
    let plays : Plays m c.args.file.now (vec_items script.calls) played.judged (vec_items played.responses) (state_of played.run.plain) = search rules in
    let reads : Reads (lines c.args.script.now) (vec_items script.calls) script.bad = search rules in
    let is : c.drawn.result ≡ Ok c.in_ok-picture-in-Ok.picture = search rules in
    let drawn : Pictured c.clock-clock.result (string_bytes c.in_ok-picture-in-Ok.picture) = IfOk-at_ok _ is c.drawn.ensures in
    let shown : c.as_str.result.now ≡ string_bytes c.in_ok-picture-in-Ok.picture = search rules in
    let pictured : Pictured (state_of played.run.plain).clock c.as_str.result.now = rw (shown, ← c.clock-clock.ensures) drawn in
    IfOk-weaker c.told.result _ _ (λ t told. told_is_journal m c.args.file.now c.args.script.now (vec_items script.calls) script.bad played.judged (vec_items played.responses) (state_of played.run.plain) t c.in-Ok.is plays reads c.as_str.result.now told.0 told.1 pictured) c.told.ensures

pub returns : goal.returns
returns g c =
    let m = g.H.Host.meaning c.args.host in
    let script = c.in_ok-script.script in
    let played = c.in_ok-played.played in
    let plays : Plays m c.args.file.now (vec_items script.calls) played.judged (vec_items played.responses) (state_of played.run.plain) = search rules in
    IfOk-weaker c.file_refusal_report.result _ _ (λ t told. refused_is_journal m c.args.file.now c.args.script.now (vec_items script.calls) played.judged c.in-Err.fault (vec_items played.responses) (state_of played.run.plain) t c.in-Err.is plays told.0 told.1) c.file_refusal_report.ensures
