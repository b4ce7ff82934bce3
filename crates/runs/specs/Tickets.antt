-- Tickets by what became of them, and how they are counted. Assumes nothing.
use Rattle.std.specs.Prelude.{ℕ, ◌+◌, Bool, List, [], count_by, ◌==◌}
use Rattle.orc.specs.Expressions.{Expression}
use Rattle.orc.specs.Calls.{Pending, pending_calls}
use Rattle.runs.specs.States.{Totals, State}

-- a pending call with the ticket, and one of the site
abbrev pub has_ticket : ℕ → Pending → Bool
has_ticket k p = k == p.ticket

abbrev pub of_site : ℕ → Pending → Bool
of_site site p = site == p.site

-- how many tickets of the site stand
abbrev pub standing_at : ℕ → Expression → ℕ
standing_at site e = count_by (of_site site) (pending_calls e)

-- the tickets that an accepted call issues and ends, by cause, each with the site and the value of its call
pub record Tickets : Type 0 where
  pub called : List Pending
  pub answered : List Pending
  pub withdrawn : List Pending
  pub lapsed : List Pending

abbrev pub no_tickets : Tickets
no_tickets = record { called = []; answered = []; withdrawn = []; lapsed = [] }

-- how many of them pass a test, by cause
abbrev pub counted : (Pending → Bool) → Tickets → Totals
counted f t = record { called = count_by f t.called; answered = count_by f t.answered; withdrawn = count_by f t.withdrawn; lapsed = count_by f t.lapsed }

abbrev pub added : Totals → Totals → Totals
added t u = record { called = t.called + u.called; answered = t.answered + u.answered; withdrawn = t.withdrawn + u.withdrawn; lapsed = t.lapsed + u.lapsed }

-- a state's totals, with the tickets counted in: those of each site at that site
abbrev pub counted_in : State → Tickets → ℕ → Totals
counted_in s t site = added (s.totals site) (counted (of_site site) t)
