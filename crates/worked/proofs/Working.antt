-- The eight cases. Assumes nothing.
use Rattle.std.proofs.Common.{ℕ, List, [], ◌∷◌, Ok, Err, sym, refl, ◌∙◌, arith}
use Rattle.orc.specs.Local.{local}
use Rattle.orc.specs.Files.{File}
use Rattle.formats.specs.declared.fault.Fault.TheVariants.{SiteUnknown}
use Rattle.files.specs.Judgement.{Outcome, broken, bad_command, bad_form, bad_goal, FileOutcome, by_bytes}
use Rattle.files.proofs.FileEncoded.{encoded}
use Rattle.files.proofs.OneOutcome.{one_outcome}
use Rattle.runs.proofs.Working.{worked_cases}
use Rattle.worked.specs.Cases.{Judged, EightWorkedCases}

-- bytes have one outcome only
judged : (bs : List ℕ) (o : Outcome File) → FileOutcome local bs o → Judged bs o
judged bs o is =
    let one = one_outcome local bs in
    record { outcome = is; only = λ o' h. one.2 o' h ∙ sym (one.2 o is) }

pub eight_worked_cases : EightWorkedCases
eight_worked_cases =
    record {
      runs = worked_cases;
      begun = λ {bs} {file} c. judged bs (Ok file) (encoded local bs file c.well_formed (sym c.bytes_of_file));
      unknown_site = judged (0 ∷ 1 ∷ 4 ∷ 0 ∷ 0 ∷ 0 ∷ []) (Err (SiteUnknown 2)) (by_bytes (omega arith) refl (bad_goal (bad_form (bad_command (broken _ (omega arith) refl refl)))));
    }
