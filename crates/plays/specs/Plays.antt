-- What comes of a list of calls. Assumes nothing.
use Rattle.std.specs.Prelude.{ℕ, List, IfOk, Ok, Err, Result, MatchResult}
use Rattle.orc.specs.Meaning.{Meaning}
use Rattle.files.specs.Contents.{file_of}
use Rattle.files.specs.Judgement.{FileOutcome}
use Rattle.formats.specs.declared.fault.Fault.{Fault}
use Rattle.runs.specs.declared.call.Call.{Call}
use Rattle.runs.specs.States.{State, begun, unloaded}
use Rattle.runs.specs.Outcomes.{Response}
use Rattle.runs.specs.Histories.{History}
use Rattle.runs.specs.Recording.{TraceOfGoal}

-- The bytes are judged as a file over the meaning m. If they are accepted, the calls with these responses are a history of a run
-- that begins with the file and is left as s, so its record, ended at the clock, is a timed trace of the file's goal; and if
-- not, of a run with nothing loaded.
pub record Plays (m : Meaning) (bs : List ℕ) (calls : List Call) (judged : Result (Unit {0}) Fault) (responses : List Response) (s : State) : Type 0 where
  pub judgement : MatchResult judged (λ _. FileOutcome m bs (Ok (file_of bs))) (λ f. FileOutcome m bs (Err f))
  pub history : MatchResult judged (λ _. History m (begun (file_of bs)) calls responses s) (λ _. History m unloaded calls responses s)
  pub trace : IfOk judged (λ _. TraceOfGoal m (file_of bs) s.events s.clock)
