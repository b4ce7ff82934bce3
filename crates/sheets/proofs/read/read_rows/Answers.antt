use Rattle.std.proofs.Common.{◌≡◌, [], reverse, ap, ℕ, ◌+◌, List, Ok, sym, ◌∙◌, subst, arith}
use Rattle.std.proofs.lemmas.Bool.{true≢false}
use Rattle.std.proofs.lemmas.List.{reverse-reverse}
use Rattle.std.proofs.lemmas.Result.{err_from_is_err_and}
use Rattle.sheets.specs.Format.{SheetRow, too_long, by_bytes, goes_on, stops, ends, ends_empty, Judged, SheetOutcome}
use Rattle.sheets.specs.Rows.{newest_first, rows_of}
use Rattle.sheets.proofs.Commands.{wide}
use Rattle.sheets.proofs.read.read_rows.Goals as goal

pub returns-then-bytes-gt-LONGEST : goal.returns-then-bytes-gt-LONGEST
returns-then-bytes-gt-LONGEST c = too_long (omega arith)

pub returns-in_err-read : goal.returns-in_err-read
returns-in_err-read c =
    let p = err_from_is_err_and c.from_residual.result c.from_residual.ensures.1 in
    let inv = c.loop-at.invariant in
    rw (p.1, p.2) (by_bytes inv.0 (inv.2 _ (stops c.loop-at-test.true c.in_err-read.ensures)))

pub loop-at-preserved : goal.loop-at-preserved
loop-at-preserved c =
    let inv = c.loop-at.invariant in
    let read = c.in_ok-read.ensures in (
      inv.0,
      λ _. omega (arith, wide read, c.width-at.ensures),
      λ o rest. inv.2 o (goes_on c.loop-at-test.true read (subst (λ (w : ℕ). Judged c.args.bytes.now (c.loop-at.at + w) (newest_first c.read.new.rows) o) c.width-at.ensures rest)),
    )

pub returns-then-not-newest_done : goal.returns-then-not-newest_done
returns-then-not-newest_done c =
    let inv = c.loop-at.invariant in
    let open_row = sym c.newest_done.ensures ∙ c.if-not-newest_done.true in
    let far = inv.1 open_row in
    by_bytes inv.0 (inv.2 _ (ends_empty c.loop-at-test.false open_row (omega arith)))

pub returns : goal.returns
unfolding newest_first
returns c =
    let inv = c.loop-at.invariant in
    let done = sym c.newest_done.ensures ∙ c.if-not-newest_done.false in
    subst (λ (rs : List SheetRow). SheetOutcome c.args.bytes.now (Ok rs)) (reverse-reverse (rows_of c.loop-at.rows))
    (by_bytes inv.0 (inv.2 _ (ends c.loop-at-test.false done)))

pub loop-at-init : goal.loop-at-init
unfolding newest_first
loop-at-init c =
    let none : newest_first c.no_rows-rows.result ≡ [] = ap reverse c.no_rows-rows.ensures in
    rw none (omega arith, λ open_row. absurd (true≢false open_row), λ o judged. judged)
