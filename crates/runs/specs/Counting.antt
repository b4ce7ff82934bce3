-- What it means that every ticket is counted. Assumes nothing.
use Rattle.std.specs.Prelude.{◌≡◌, ℕ, ◌+◌, ◌≤◌, Bool, List, Err, count_by}
use Rattle.orc.specs.Meaning.{Meaning}
use Rattle.orc.specs.Calls.{Pending, pending_calls}
use Rattle.orc.specs.Sound.{standing}
use Rattle.runs.specs.declared.call.Call.{Call}
use Rattle.runs.specs.declared.call.Call.TheVariants.{Answer}
use Rattle.runs.specs.declared.refusal.Refusal.TheVariants.{NotStanding}
use Rattle.runs.specs.States.{Totals, State}
use Rattle.runs.specs.Tickets.{has_ticket, of_site, standing_at}
use Rattle.runs.specs.Outcomes.{Response, Outcome}
use Rattle.runs.specs.Histories.{History, tally}

-- how many tickets ended
abbrev pub ended : Totals → ℕ
ended t = t.answered + (t.withdrawn + t.lapsed)

-- the ticket stands nowhere from s on, and every answer to it is refused by Not standing
pub record GoneForGood (m : Meaning) (k : ℕ) (s : State) : Type 0 where
  pub stands_nowhere : {cs : List Call} {rs : List Response} {s' : State} → History m s cs rs s' → standing k s'.expression ≡ 0
  pub answers_refused : {cs : List Call} {rs : List Response} {s' : State} → History m s cs rs s' → (v : ℕ) → Outcome m s' (Answer k v) (Err (NotStanding k)) s'

-- The tickets of a history h that begins at s₀ and leads to s.
pub record Counted (m : Meaning) (s₀ : State) (cs : List Call) (rs : List Response) (s : State) (h : History m s₀ cs rs s) : Type 0 where
  -- the totals of each site are the counts over the history
  pub totals_are_counts : (site : ℕ) → s.totals site ≡ tally (of_site site) h
  -- of the tickets that pass a test, whatever it is, as many were issued as were answered, withdrawn or lapsed or still stand
  pub balanced : (f : Pending → Bool) → (tally f h).called ≡ ended (tally f h) + count_by f (pending_calls s.expression)
  -- so it is for each site
  pub sites_balanced : (site : ℕ) → (s.totals site).called ≡ ended (s.totals site) + standing_at site s.expression
  -- each ticket is issued once, and no other is ever counted: so each was answered, withdrawn or lapsed or stands, and only
  -- one of these
  pub issued_once : (k : ℕ) → 1 ≤ k → k ≤ s.issued → (tally (has_ticket k) h).called ≡ 1
  pub no_other_issued : (k : ℕ) → 1 ≤ (tally (has_ticket k) h).called → (1 ≤ k) × (k ≤ s.issued)
  -- a ticket that was answered, withdrawn or lapsed is gone for good
  pub ended_for_good : (k : ℕ) → 1 ≤ ended (tally (has_ticket k) h) → GoneForGood m k s
