-- What a command that was read tells. Assumes nothing.
use Rattle.std.proofs.Common.{ℕ, ◌≤◌, List, sym, subst, lit≤}
use Rattle.formats.specs.Operands.{byte_at}
use Rattle.formats.specs.Widths.{width_of}
use Rattle.sheets.specs.Format.{SheetRow, Reads, reads_row, reads_window}

-- a sheet's commands have seven bytes or more
pub wide : {bs : List ℕ} {at : ℕ} {rs rs' : List SheetRow} → Reads bs at rs rs' → 7 ≤ width_of (byte_at bs at)
wide (reads_row b _ _ _ _) = subst (λ (n : ℕ). 7 ≤ width_of n) (sym b) (lit≤ tt)
wide (reads_window _ _ b _ _ _ _) = subst (λ (n : ℕ). 7 ≤ width_of n) (sym b) (lit≤ tt)
