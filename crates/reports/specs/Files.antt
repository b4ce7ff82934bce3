-- The report of a parameter file. Assumes nothing.
use Rattle.std.specs.Prelude.{◌≡◌, ℕ, List, is_ok, string_bytes}
use Rattle.orc.specs.Meaning.{Meaning}
use Rattle.orc.specs.Files.{File}
use Rattle.files.specs.Judgement.{Outcome, FileOutcome}
use Rattle.reports.specs.Verdicts.{first_line, Begins}
use Rattle.reports.specs.declared.report.Report.{Report}

-- a report begins with the verdict on a file's bytes, over what the sites of a host can reply, and says whether it is accepted
abbrev pub JudgedFile : Meaning → List ℕ → Report → Type 0
JudgedFile m bs t = (o : Outcome File) × FileOutcome m bs o × Begins (first_line o) (string_bytes t.text) × (t.accepted ≡ is_ok o)
