-- Totals that are shown, as what is said of a site. Assumes nothing.
use Rattle.std.proofs.Common.{◌≡◌, ℕ, ◌<◌, ◌≤◌, true, false, cond, nat_lt, [], sym, ap, ◌∙◌, arith}
use Rattle.std.proofs.lemmas.Bool.Decides.{nat_tests}
use Rattle.runs.specs.States.{State}
use Rattle.engine.specs.Shown.{Shows}
use Rattle.engine.specs.declared.shown.SiteTotals.{SiteTotals}
use Rattle.journals.specs.Lines.{counts, counted, site_line, site_text}

-- the counts of a site's totals
counts_shown : (s : State) (site : ℕ) (t : SiteTotals) → Shows s site t → counts t ≡ counted s site
counts_shown s site t h = rw (h.called, h.answered, h.withdrawn, h.lapsed, h.standing)

-- a site that was called has its line
pub line_shown : (s : State) (site : ℕ) (t : SiteTotals) → Shows s site t → 0 < t.called → site_line site (counts t) ≡ site_text s site
line_shown s site t h some =
    let called : nat_lt 0 (s.totals site).called ≡ true = grind (arith, nat_tests, h.called, some) in
    ap (site_line site) (counts_shown s site t h) ∙ sym (ap (λ b. cond b (site_line site (counted s site)) []) called)

-- one that was not has none
pub nothing_shown : (s : State) (site : ℕ) (t : SiteTotals) → Shows s site t → t.called ≤ 0 → site_text s site ≡ []
nothing_shown s site t h none =
    let silent : nat_lt 0 (s.totals site).called ≡ false = grind (arith, nat_tests, h.called, none) in
    ap (λ b. cond b (site_line site (counted s site)) []) silent
