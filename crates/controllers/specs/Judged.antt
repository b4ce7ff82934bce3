-- The judgements on a sheet and on a file, as they are told. Assumes nothing.
use Rattle.std.specs.Prelude.{◌≡◌, ℕ, List, Ok, Err, Result, MatchResult}
use Rattle.orc.specs.Meaning.{Meaning}
use Rattle.orc.specs.Files.{File}
use Rattle.formats.specs.declared.fault.Fault.{Fault}
use Rattle.formats.specs.Faults.{told}
use Rattle.sheets.specs.Format.{SheetRow, SheetOutcome}
use Rattle.files.specs.Judgement.{FileOutcome}
use Rattle.reports.specs.Replies.{controller}
use Rattle.controllers.specs.declared.judgement.Judgement.{Judgement}
use Rattle.controllers.specs.Told.{verdict_on}

-- The bytes of the sheet are judged, and m is the meaning of the controller with that sheet.
abbrev pub MakesHost : List ℕ → Result (Unit {0}) Fault → Meaning → Type 0
MakesHost sheet judged m =
    MatchResult judged
    (λ _. (rows : List SheetRow) × SheetOutcome sheet (Ok rows) × (m ≡ controller (Ok rows)))
    (λ f. SheetOutcome sheet (Err f) × (m ≡ controller (Err f)))

-- The bytes of the sheet are judged, and those of the file over the controller with that sheet: the local sites, and from 4 on those of
-- the sheet. One that is refused has none.
pub record Judged (file sheet : List ℕ) (j : Judgement) : Type 0 where
  pub sheet_outcome : Result (List SheetRow) Fault
  pub sheet_judged : SheetOutcome sheet sheet_outcome
  pub sheet_told : j.sheet ≡ verdict_on told sheet_outcome
  pub file_outcome : Result File Fault
  pub file_judged : FileOutcome (controller sheet_outcome) file file_outcome
  pub file_told : j.file ≡ verdict_on told file_outcome
