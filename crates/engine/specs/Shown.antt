-- What the totals of a site show. Assumes nothing.
use Rattle.std.specs.Prelude.{◌≡◌, ℕ}
use Rattle.runs.specs.States.{State}
use Rattle.runs.specs.Tickets.{standing_at}
use Rattle.engine.specs.declared.shown.SiteTotals.{SiteTotals}

-- the four counts of a state's totals, and how many tickets of the site stand in its expression
pub record Shows (s : State) (site : ℕ) (t : SiteTotals) : Type 0 where
  pub called : t.called ≡ (s.totals site).called
  pub answered : t.answered ≡ (s.totals site).answered
  pub withdrawn : t.withdrawn ≡ (s.totals site).withdrawn
  pub lapsed : t.lapsed ≡ (s.totals site).lapsed
  pub standing : t.standing ≡ standing_at site s.expression
