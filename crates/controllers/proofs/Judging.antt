-- What judgements say, as they are told. Assumes nothing.
use Rattle.std.proofs.Common.{◌≡◌, ℕ, List, Ok, Err, Result, MatchResult, ◌≤◌, subst, arith}
use Rattle.orc.specs.Meaning.{Meaning}
use Rattle.orc.specs.Files.{File}
use Rattle.formats.specs.declared.fault.Fault.{Fault}
use Rattle.formats.specs.Faults.{told}
use Rattle.sheets.specs.Format.{SheetRow, SheetOutcome}
use Rattle.files.specs.Contents.{file_of}
use Rattle.files.specs.Judgement.{FileOutcome}
use Rattle.runs.specs.declared.call.Call.{Call}
use Rattle.runs.specs.States.{State}
use Rattle.runs.specs.Outcomes.{Response}
use Rattle.plays.specs.Plays.{Plays}
use Rattle.reports.specs.Replies.{controller}
use Rattle.controllers.specs.declared.verdict.Verdict.{Verdict}
use Rattle.controllers.specs.declared.judgement.Judgement.{Judgement}
use Rattle.controllers.specs.declared.state.State.{State as Numbers}
use Rattle.controllers.specs.Told.{verdict_on, shortened}
use Rattle.controllers.specs.Orders.{Met}
use Rattle.controllers.specs.Shown.{numbers_of}
use Rattle.controllers.specs.Written.{Lent, Written}
use Rattle.controllers.specs.Judged.{MakesHost, Judged}
use Rattle.controllers.specs.Played.{Played}
use Rattle.controllers.proofs.Telling.{verdict_whole}
use Rattle.controllers.proofs.SheetPlaces.{sheet_near}
use Rattle.controllers.proofs.FilePlaces.{file_near}

-- what a sheet comes to, and what is told of it
pub record OnSheet (sheet : List ℕ) (m : Meaning) (v : Verdict) : Type 0 where
  pub outcome : Result (List SheetRow) Fault
  pub judged : SheetOutcome sheet outcome
  pub meaning : m ≡ controller outcome
  pub says : v ≡ verdict_on told outcome

pub on_sheet : (sheet : List ℕ) (m : Meaning) (judged : Result (Unit {0}) Fault) (v : Verdict) → MakesHost sheet judged m → v ≡ shortened (verdict_on told judged) → OnSheet sheet m v
on_sheet sheet m (Ok u) v (rows, outcome, is) said = record { outcome = Ok rows; judged = outcome; meaning = is; says = said }
on_sheet sheet m (Err f) v (outcome, is) said =
    record { outcome = Err f; judged = outcome; meaning = is; says = verdict_whole {X = List SheetRow} told (Err f) v said (let near : (told f).place ≤ 5000 = sheet_near sheet (Err f) outcome in omega arith) }

-- the same of a file
abbrev OnFile : Meaning → List ℕ → Result (Unit {0}) Fault → Type 0
OnFile m file judged = MatchResult judged (λ _. FileOutcome m file (Ok (file_of file))) (λ f. FileOutcome m file (Err f))

file_told : (m : Meaning) (file : List ℕ) (judged : Result (Unit {0}) Fault) (v : Verdict) → OnFile m file judged → v ≡ shortened (verdict_on told judged) → v ≡ verdict_on told judged
file_told m file (Ok u) v outcome said = said
file_told m file (Err f) v outcome said = verdict_whole {X = Unit {0}} told (Err f) v said (let near : (told f).place ≤ 5000 = file_near m file (Err f) outcome in omega arith)

on_file : (m : Meaning) (file : List ℕ) (judged : Result (Unit {0}) Fault) (v : Verdict) → OnFile m file judged → v ≡ verdict_on told judged → (o : Result File Fault) × FileOutcome m file o × (v ≡ verdict_on told o)
on_file m file (Ok u) v outcome said = (Ok (file_of file), outcome, said)
on_file m file (Err f) v outcome said = (Err f, outcome, said)

module _ (file sheet : List ℕ) (m : Meaning) (sheet_judged file_judged : Result (Unit {0}) Fault) (j : Judgement) (host : MakesHost sheet sheet_judged m) (outcome : OnFile m file file_judged)
    (sheet_says : j.sheet ≡ shortened (verdict_on told sheet_judged)) (file_says : j.file ≡ shortened (verdict_on told file_judged)) where
  here : OnSheet sheet m j.sheet
  here = on_sheet sheet m sheet_judged j.sheet host sheet_says

  there : (o : Result File Fault) × FileOutcome m file o × (j.file ≡ verdict_on told o)
  there = on_file m file file_judged j.file outcome (file_told m file file_judged j.file outcome file_says)

  pub judge : Judged file sheet j
  judge =
      record {
        sheet_outcome = here.outcome;
        sheet_judged = here.judged;
        sheet_told = here.says;
        file_outcome = there.0;
        file_judged = subst (λ z. FileOutcome z file there.0) here.meaning there.1;
        file_told = there.2;
      }

  pub played_so : (before after : Lent) (n : Numbers) (calls : List Call) (responses : List Response) (s : State)
      → Plays m file calls file_judged responses s → Met before.orders calls responses after.orders → Written s before after → n ≡ numbers_of s → Played file sheet before after j n
  played_so before after n calls responses s plays met written numbers =
      record {
        sheet_outcome = here.outcome;
        sheet_judged = here.judged;
        file_judged = file_judged;
        file_told = file_told m file file_judged j.file outcome file_says;
        calls = calls;
        responses = responses;
        state = s;
        plays = subst (λ z. Plays z file calls file_judged responses s) here.meaning plays;
        met = met;
        written = written;
        numbers = numbers;
      }
