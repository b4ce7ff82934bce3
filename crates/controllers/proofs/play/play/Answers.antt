use Rattle.std.proofs.Common.{rules}
use Rattle.engine.specs.Stands.{state_of}
use Rattle.controllers.proofs.Judging.{judge, played_so}
use Rattle.controllers.proofs.play.play.Goals as goal

pub returns-clause-judged : goal.returns-clause-judged
returns-clause-judged c = judge c.args.file.now c.args.sheet.now _ c.controller-sheet_judged.result.1 c.begin-file_judged.result.1 _ c.controller-sheet_judged.ensures c.begin-file_judged.ensures.judged c.of.ensures c.of-2.ensures

pub returns-clause-played : goal.returns-clause-played
returns-clause-played c =
    let made = c.make_all.ensures.met in
    played_so c.args.file.now c.args.sheet.now _ c.controller-sheet_judged.result.1 c.begin-file_judged.result.1 _ c.controller-sheet_judged.ensures c.begin-file_judged.ensures.judged c.of.ensures c.of-2.ensures
    _ _ c.of-3.result made.0 made.1 (state_of c.make_all.new.run.plain) (search rules) made.2 (record { form = c.write_form.ensures; events = c.write_events.ensures; totals = c.write_totals.ensures }) c.of-3.ensures
