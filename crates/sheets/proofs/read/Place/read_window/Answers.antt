use Rattle.std.proofs.Common.{◌≡◌, ◌∷◌, ◌++◌, List, [], map, ap, ◌∙◌, arith, rules, None, Some}
use Rattle.std.proofs.lemmas.List.{length-map, map_push}
use Rattle.std.proofs.lemmas.Result.{err_from_is_err_and}
use Rattle.fixed.specs.declared.list.FixedList.{FixedList}
use Rattle.fixed.specs.Items.{items_of}
use Rattle.orc.specs.Meaning.{Window}
use Rattle.formats.specs.declared.fault.Fault.TheVariants.{WindowBeforeRow}
use Rattle.sheets.specs.Format.{SheetRow, reads_window, window_first, window_5, bad_window, with_window}
use Rattle.sheets.specs.Rows.{row_of, window_of}
use Rattle.sheets.specs.declared.row.Row.{Row}
use Rattle.sheets.specs.declared.row.TheConstants.{MOST_WINDOWS}
use Rattle.sheets.specs.declared.row.Window.{Window as Slot}
use Rattle.sheets.proofs.Newest.{behind, last_of, newest_shown, none_read, newest_replaced}
use Rattle.sheets.proofs.read.Place.read_window.Goals as goal

-- a window more is a window more in what the row stands for
window_added : (r : Row) (ws : FixedList Slot MOST_WINDOWS) (w : Slot) → items_of ws ≡ items_of r.windows ++ (w ∷ []) → row_of (record r { windows = ws }) ≡ with_window (row_of r) (window_of w)
window_added r ws w more =
    ap (λ (ws : List Window). let made : SheetRow = record { site = r.site; first = r.first; last = r.last; silent = r.silent; windows = ws } in made)
    (ap (map window_of) more ∙ map_push window_of (items_of r.windows) w)

pub returns-in_err-row : goal.returns-in_err-row
returns-in_err-row c =
    let p = err_from_is_err_and c.from_residual.result c.from_residual.ensures.1 in
    let none : None ≡ last_of (items_of c.args.rows.now) = grind arith in
    let fault : c.in_err-row.field-0.0 ≡ WindowBeforeRow c.args.self.now.at = grind arith in
    rw (p.1, p.2, fault) (window_first c.requires (none_read c.args.rows.now none))

pub returns-then-is_full : goal.returns-then-is_full
returns-then-is_full c =
    let row = c.in_ok-row.row in
    window_5 _ _ c.requires (newest_shown c.args.rows.now row (grind arith)) (omega (arith, c.if-is_full.ensures, length-map (items_of row.windows) window_of))

pub returns-in_err-window : goal.returns-in_err-window
returns-in_err-window c =
    let row = c.in_ok-row.row in
    let p = err_from_is_err_and c.from_residual-in_err-window.result c.from_residual-in_err-window.ensures.1 in
    rw (p.1, p.2) (bad_window _ _ c.requires (newest_shown c.args.rows.now row (grind arith)) (omega (arith, c.if-is_full.ensures, length-map (items_of row.windows) window_of)) c.in_err-window.ensures)

pub returns : goal.returns
returns c =
    let rows = c.args.rows.now in
    let row = c.in_ok-row.row in
    let is : Some row ≡ last_of (items_of rows) = grind arith in
    let window = c.in_ok-window.ensures in
    reads_window _ _ c.requires (newest_shown rows row is) (omega (arith, c.if-is_full.ensures, length-map (items_of row.windows) window_of)) window.0
    (newest_replaced rows c.replace_last.new.self row _ is c.replace_last.ensures ∙ ap (λ r. r ∷ behind rows) (window_added row c.push.new.self c.in_ok-window.window (search rules) ∙ ap (with_window (row_of row)) window.1))
