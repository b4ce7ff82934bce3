-- What was played, as the journal of a report. Assumes nothing.
use Rattle.std.proofs.Common.{◌≡◌, ℕ, List, ◌++◌, codes, false, is_none, Ok, Err, Option, Result, string_bytes}
use Rattle.std.proofs.lemmas.Result.{MatchResult-at_ok, MatchResult-at_err, IfOk-at_ok}
use Rattle.std.specs.Str.Lines.{lines}
use Rattle.orc.specs.Meaning.{Meaning}
use Rattle.formats.specs.declared.fault.Fault.{Fault}
use Rattle.plays.specs.Plays.{Plays}
use Rattle.reports.specs.Verdicts.{first_line, Begins}
use Rattle.reports.specs.declared.report.Report.{Report}
use Rattle.runs.specs.declared.call.Call.{Call}
use Rattle.runs.specs.States.{State}
use Rattle.runs.specs.Outcomes.{Response}
use Rattle.scripts.specs.declared.script.BadLine.{BadLine}
use Rattle.scripts.specs.Scripts.{Reads}
use Rattle.journals.specs.Lines.{journal_text}
use Rattle.journals.specs.Journals.{Journal, Pictured, is_played, is_refused}

module _ (m : Meaning) (bs script : List ℕ) (calls : List Call) where
  -- a file that is accepted
  pub told_is_journal : (bad : Option BadLine) (judged : Result (Unit {0}) Fault) (responses : List Response) (s : State) (t : Report) → judged ≡ Ok tt → Plays m bs calls judged responses s → Reads (lines script) calls bad → (p : List ℕ) → string_bytes t.text ≡ journal_text calls bad responses s ++ (codes "\n" ++ p) → t.accepted ≡ is_none bad → Pictured s.clock p → Journal m bs script t
  told_is_journal bad judged responses s t is plays reads p whole accepted pictured = is_played (record {
    calls = calls;
    bad = bad;
    responses = responses;
    state = s;
    played = record {
      judgement = MatchResult-at_ok _ _ tt is plays.judgement;
      reading = reads;
      history = MatchResult-at_ok _ _ tt is plays.history;
      trace = IfOk-at_ok _ is plays.trace;
    };
    picture = p;
    whole = whole;
    pictured = pictured;
    accepted = accepted;
  })

  -- a file that is refused
  pub refused_is_journal : (judged : Result (Unit {0}) Fault) (f : Fault) (responses : List Response) (s : State) (t : Report) → judged ≡ Err f → Plays m bs calls judged responses s → Begins (first_line {X = Unit {0}} (Err f)) (string_bytes t.text) → t.accepted ≡ false → Journal m bs script t
  refused_is_journal judged f responses s t is plays = is_refused (MatchResult-at_err _ _ f is plays.judgement)
