-- What the rows and windows of the code stand for. Assumes nothing.
use Rattle.std.specs.Prelude.{ℕ, List, map, reverse}
use Rattle.fixed.specs.declared.list.FixedList.{FixedList}
use Rattle.fixed.specs.Items.{items_of}
use Rattle.orc.specs.Meaning.{Window}
use Rattle.sheets.specs.Format.{SheetRow}
use Rattle.sheets.specs.declared.row.Window.{Window as Slot}
use Rattle.sheets.specs.declared.row.Row.{Row}

abbrev pub window_of : Slot → Window
window_of w = record { earliest = w.earliest; latest = w.latest; lowest = w.lowest; highest = w.highest }

abbrev pub row_of : Row → SheetRow
row_of r = record { site = r.site; first = r.first; last = r.last; silent = r.silent; windows = map window_of (items_of r.windows) }

-- the rows of a sheet in their order
abbrev pub rows_of : {N : ℕ} → FixedList Row N → List SheetRow
rows_of rows = map row_of (items_of rows)

-- the rows read so far, the newest first
unfoldable pub newest_first : {N : ℕ} → FixedList Row N → List SheetRow
newest_first rows = reverse (rows_of rows)
