use Rattle.std.proofs.Common.{◌∷◌, sym, ap, ◌∙◌, arith, rules}
use Rattle.std.proofs.lemmas.Result.{err_from_is_err_and}
use Rattle.sheets.specs.Format.{reads_row, after_empty_row, row_65, bad_row}
use Rattle.sheets.specs.Rows.{newest_first}
use Rattle.sheets.proofs.Newest.{counted, row_added}
use Rattle.sheets.proofs.read.Place.read_row.Goals as goal

pub returns-then-not-newest_done : goal.returns-then-not-newest_done
returns-then-not-newest_done c =
    let open_row = sym c.newest_done.ensures ∙ c.if-not-newest_done.true in
    let far = c.requires.row_before open_row in
    after_empty_row c.requires.command open_row (omega arith)

pub returns-then-is_full : goal.returns-then-is_full
returns-then-is_full c = row_65 c.requires.command (sym c.newest_done.ensures ∙ c.if-not-newest_done.false) (omega (arith, c.if-is_full.ensures, counted c.args.rows.now))

pub returns-in_err-row : goal.returns-in_err-row
returns-in_err-row c =
    let p = err_from_is_err_and c.from_residual.result c.from_residual.ensures.1 in
    rw (p.1, p.2) (bad_row c.requires.command (sym c.newest_done.ensures ∙ c.if-not-newest_done.false) (omega (arith, c.if-is_full.ensures, counted c.args.rows.now)) c.in_err-row.ensures)

pub returns : goal.returns
returns c =
    let row = c.in_ok-row.ensures in
    reads_row c.requires.command (sym c.newest_done.ensures ∙ c.if-not-newest_done.false) (omega (arith, c.if-is_full.ensures, counted c.args.rows.now)) row.0
    (row_added c.args.rows.now c.push.new.self c.in_ok-row.row (search rules) ∙ ap (λ r. r ∷ newest_first c.args.rows.now) row.1)
