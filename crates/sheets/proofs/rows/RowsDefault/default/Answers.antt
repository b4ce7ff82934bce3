use Rattle.std.proofs.Common.{◌≡◌, true, List, sym, refl, subst}
use Rattle.sheets.specs.Format.{SheetRow, sound_sheet}
use Rattle.sheets.proofs.rows.RowsDefault.default.Goals as goal

pub invariant_of-result : goal.invariant_of-result
unfolding sound_sheet
invariant_of-result c = record { sound = subst (λ (rs : List SheetRow). sound_sheet rs ≡ true) (sym c.no_rows.ensures) refl }
