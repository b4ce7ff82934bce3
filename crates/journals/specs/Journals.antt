-- The journal of a run. Assumes nothing.
use Rattle.std.specs.Prelude.{◌≡◌, ℕ, ◌⊎◌, List, ◌++◌, codes, Ok, Err, false, is_none, string_bytes, Option}
use Rattle.std.specs.Str.Lines.{lines}
use Rattle.orc.specs.Meaning.{Meaning}
use Rattle.formats.specs.declared.fault.Fault.{Fault}
use Rattle.files.specs.Contents.{file_of}
use Rattle.files.specs.Judgement.{FileOutcome}
use Rattle.pictures.specs.Drawings.{Scale, heading, quiet_line, Begins as Starts}
use Rattle.reports.specs.Verdicts.{first_line, Begins}
use Rattle.reports.specs.declared.report.Report.{Report}
use Rattle.runs.specs.declared.call.Call.{Call}
use Rattle.runs.specs.States.{State, begun}
use Rattle.runs.specs.Outcomes.{Response}
use Rattle.runs.specs.Histories.{History}
use Rattle.runs.specs.Recording.{TraceOfGoal}
use Rattle.scripts.specs.declared.script.BadLine.{BadLine}
use Rattle.scripts.specs.Scripts.{Reads}
use Rattle.journals.specs.Lines.{journal_text}
use Rattle.journals.specs.declared.line.CallLine.{CallLine}

-- a call and what it met
abbrev pub pair_of : CallLine → Call × Response
pair_of l = (l.call, l.response)

-- What is played: the calls of a script, up to its first line at fault. They and their responses are a history of a run of the
-- file, which is left as a state, so the record, ended at the clock, is a timed trace of the file's goal.
pub record Played (m : Meaning) (bs script : List ℕ) (calls : List Call) (bad : Option BadLine) (responses : List Response) (s : State) : Type 0 where
  pub judgement : FileOutcome m bs (Ok (file_of bs))
  pub reading : Reads (lines script) calls bad
  pub history : History m (begun (file_of bs)) calls responses s
  pub trace : TraceOfGoal m (file_of bs) s.events s.clock

-- A picture of a run up to a clock: it begins with its scale and the clock, or says that there is nothing to show up to it.
abbrev pub Pictured : ℕ → List ℕ → Type 0
Pictured clock picture = (picture ≡ quiet_line clock) ⊎ ((n : ℕ) × Scale clock n × Starts (heading n clock) picture)

-- The report of a script that is played over a file that is accepted: a line for each call and what it met, the line at fault, if
-- there is one, and what the run holds; then, behind an empty line, a picture up to the run's clock. It is accepted if no line
-- is at fault.
pub record Told (m : Meaning) (bs script : List ℕ) (t : Report) : Type 0 where
  pub calls : List Call
  pub bad : Option BadLine
  pub responses : List Response
  pub state : State
  pub played : Played m bs script calls bad responses state
  pub picture : List ℕ
  pub whole : string_bytes t.text ≡ journal_text calls bad responses state ++ (codes "\n" ++ picture)
  pub pictured : Pictured state.clock picture
  pub accepted : t.accepted ≡ is_none bad

-- The report of a script over any bytes as a file, which may be refused: then it begins with the verdict.
pub data Journal (m : Meaning) (bs script : List ℕ) (t : Report) : Type 0 where
  is_played : Told m bs script t → Journal m bs script t
  is_refused : {f : Fault} → FileOutcome m bs (Err f) → Begins (first_line {X = Unit {0}} (Err f)) (string_bytes t.text) → t.accepted ≡ false → Journal m bs script t
