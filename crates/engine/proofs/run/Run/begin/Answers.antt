use Rattle.files.specs.Contents.{file_of}
use Rattle.runs.proofs.Lasting.{not_loaded_stays}
use Rattle.runs.proofs.Believing.{every_run_is_faithful, calls_have_one_history}
use Rattle.engine.proofs.run.Run.begin.Goals as goal
use Rattle.engine.proofs.run.Run.begin.Goals.{in-Ok, in-Err}

pub returns-clause-faithful : goal.returns-clause-faithful
returns-clause-faithful g c =
    let m = g.H.Host.meaning c.args.host in
    let file = file_of c.args.file.now in
    let laws = g.H.Host.laws c.args.host in
    elim c.match-judged.branch [
      | in-Ok w ↦ rw w.in-Ok.is (every_run_is_faithful m file laws w.in-Ok.ensures.encoded.0, calls_have_one_history m file laws w.in-Ok.ensures.encoded.0)
      | in-Err w ↦ rw w.in-Err.is (not_loaded_stays m)
    ]
