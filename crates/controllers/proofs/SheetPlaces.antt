-- The places of the faults of a sheet: each has 32 bits. Assumes nothing.
use Rattle.std.proofs.Common.{ℕ, ◌<◌, ◌≤◌, List, length, Result, IfErr, arith}
use Rattle.formats.specs.declared.fault.Fault.{Fault}
use Rattle.formats.specs.Faults.{told}
use Rattle.formats.specs.Operands.{byte_at}
use Rattle.sheets.specs.Format.{SheetRow, row_rules, window_rules, Faulty, no_command, after_empty_row, row_65, bad_row, window_first, window_5, bad_window, Judged, goes_on, stops, ends, ends_empty, SheetOutcome, too_long, by_bytes}
use Rattle.controllers.proofs.Rules.{broken_near, width_near}

module _ (bs : List ℕ) (short : length bs ≤ 4096) where
  faulty_near : {at : ℕ} {rs : List SheetRow} {f : Fault} → at < length bs → Faulty bs at rs f → (told f).place ≤ 5000
  faulty_near within (no_command a b) = omega arith
  faulty_near within (after_empty_row a b is) = omega (arith, is)
  faulty_near within (row_65 a b many) = omega arith
  faulty_near {at} within (bad_row {f} a b few broken) =
      broken_near (row_rules bs at) f (omega arith, (omega arith, (omega arith, (omega arith, (omega arith, (omega arith, (omega arith, tt))))))) broken
  faulty_near within (window_first a b) = omega arith
  faulty_near within (window_5 r rest a b many) = omega arith
  faulty_near {at} within (bad_window {f} r rest a b few broken) =
      broken_near (window_rules bs at) f (omega arith, (omega arith, (omega arith, (omega arith, (omega arith, (omega arith, (omega arith, tt))))))) broken

  judged_near : {at : ℕ} {rs : List SheetRow} {o : Result (List SheetRow) Fault} → at ≤ 4109 → Judged bs at rs o → IfErr o (λ f. (told f).place ≤ 5000)
  judged_near {at} near (goes_on within reads rest) = let w = width_near (byte_at bs at) in judged_near (omega arith) rest
  judged_near near (stops within faulty) = faulty_near within faulty
  judged_near near (ends past done) = tt
  judged_near near (ends_empty past done is) = omega (arith, is)

pub sheet_near : (bs : List ℕ) (o : Result (List SheetRow) Fault) → SheetOutcome bs o → IfErr o (λ f. (told f).place ≤ 5000)
sheet_near bs o (too_long past) = omega arith
sheet_near bs o (by_bytes short judged) = judged_near bs short (omega arith) judged
