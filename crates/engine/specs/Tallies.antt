-- What the totals of the code stand for, and how tickets are counted in. Assumes nothing.
use Rattle.std.specs.Prelude.{◌≡◌, ℕ, ◌+◌, ◌<◌, ◌≤◌, List, [], count_by, slice_index_or}
use Rattle.std.specs.List.{AllByRecursion}
use Rattle.orc.specs.Calls.{Pending}
use Rattle.runs.specs.States.{Totals}
use Rattle.runs.specs.Tickets.{of_site, Tickets, counted, added}
use Rattle.engine.specs.declared.table.Totals.{Totals as Line}
use Rattle.engine.specs.declared.table.Table.{Table}
use Rattle.engine.specs.declared.table.Cause.{Cause}
use Rattle.engine.specs.declared.table.Cause.TheVariants.{Called, Answered, Withdrawn, Lapsed}

abbrev pub totals_of : Line → Totals
totals_of l = record { called = l.called; answered = l.answered; withdrawn = l.withdrawn; lapsed = l.lapsed }

-- a line of which nothing was counted
abbrev pub empty_line : Line
empty_line = record { called = 0; answered = 0; withdrawn = 0; lapsed = 0 }

-- the totals of a site; of one that the table does not have, nothing was counted
abbrev pub totals_at : Table → ℕ → Totals
totals_at t site = totals_of (slice_index_or t.lines site empty_line)

-- how many tickets were counted by a cause
abbrev pub amount : Cause → Totals → ℕ
amount Called t = t.called
amount Answered t = t.answered
amount Withdrawn t = t.withdrawn
amount Lapsed t = t.lapsed

-- tickets that all were issued, or ended, by one cause
abbrev pub by_cause : Cause → List Pending → Tickets
by_cause Called ps = record { called = ps; answered = []; withdrawn = []; lapsed = [] }
by_cause Answered ps = record { called = []; answered = ps; withdrawn = []; lapsed = [] }
by_cause Withdrawn ps = record { called = []; answered = []; withdrawn = ps; lapsed = [] }
by_cause Lapsed ps = record { called = []; answered = []; withdrawn = []; lapsed = ps }

-- the tickets are counted in, each at its site
abbrev pub CountsIn : Table → Table → Tickets → Type 0
CountsIn before after t = (site : ℕ) → totals_at after site ≡ added (totals_at before site) (counted (of_site site) t)

-- Each of the tickets has a site that the table has, and there is room to count them in.
pub record Room (t : Table) (cause : Cause) (ps : List Pending) : Type 0 where
  pub sited : AllByRecursion (λ p. p.site < 32) ps
  pub enough : (site : ℕ) → amount cause (totals_at t site) + count_by (of_site site) ps ≤ 65535
