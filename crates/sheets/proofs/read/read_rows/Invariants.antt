use Rattle.std.proofs.Common.{◌≡◌, ◌-◌, ◌≤◌, false, [], length}
use Rattle.sheets.specs.Format.{Outcome, Judged, newest_done}
use Rattle.sheets.specs.Rows.{newest_first}
use Rattle.sheets.proofs.read.read_rows.Given as goal

-- what the bytes from here on come to, after the rows read so far, is what the sheet comes to
abbrev pub invariant-loop-at : goal.invariant-loop-at
invariant-loop-at l =
    (length l.bytes ≤ 4096)
    × (newest_done (newest_first l.rows) ≡ false → 7 ≤ l.at)
    × ((o : Outcome) → Judged l.bytes l.at (newest_first l.rows) o → Judged l.bytes 0 [] o)

abbrev pub decreases-loop-at : goal.decreases-loop-at
decreases-loop-at l = length l.bytes - l.at
