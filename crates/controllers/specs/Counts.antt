-- The totals of a site, in numbers. Assumes nothing.
use Rattle.engine.specs.declared.shown.SiteTotals.{SiteTotals}
use Rattle.controllers.specs.declared.totals.Totals.{Totals}

-- the same five counts
abbrev pub counts_of : SiteTotals → Totals
counts_of t = record { called = t.called; answered = t.answered; withdrawn = t.withdrawn; lapsed = t.lapsed; standing = t.standing }
