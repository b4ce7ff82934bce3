-- What a state keeps by itself, in a form that may stand in a struct's ghost fields. Assumes nothing.
--
-- A ghost field's fact must have at most one proof, and antt has to see that by itself. It does for equations and orders
-- between numbers, for tests that pass, for functions into such facts and for products of at most five; not for records, nor
-- for what goes by cases on an expression or a list. So a test stands here for each definition by cases, and what all
-- elements of a list keep is said of each that the list has. Nor does antt look deeper than five steps: a function, a
-- product and an order are one step each, an equation between numbers is two, and one between lists three. Each fact below
-- keeps within that, up to StateFits, and may be one ghost field; the product of all of them may not.
use Rattle.std.specs.Prelude.{◌≡◌, ℕ, ◌+◌, ◌≤◌, Bool, true, ◌&&◌, ◌↔◌, List, length, ◌==◌, nat_lt}
use Rattle.std.specs.List.{ContainsAt as Has}
use Rattle.orc.specs.Expressions.{Expression, stop, site_call, definition_call, parallel, sequential, pruning, pending, Definition, bytes, size}
use Rattle.orc.specs.Variables.{free}
use Rattle.orc.specs.Simplified.{simplified}
use Rattle.orc.specs.Calls.{Pending, pending_calls}
use Rattle.orc.specs.Sound.{Closed, DistinctTickets}
use Rattle.runs.specs.States.{Entry, Totals, State}
use Rattle.runs.specs.Tickets.{standing_at}
use Rattle.runs.specs.Outcomes.{largest_form, longest_record, last_clock}
use Rattle.runs.specs.Counting.{ended}
use Rattle.runs.specs.Bounds.{Ranged, Keeps}

-- no call is pending in the right part of a sequential
unfoldable pub rights_wait : Expression → Bool
rights_wait stop = true
rights_wait (site_call s p) = true
rights_wait (definition_call i p) = true
rights_wait (parallel f g) = rights_wait f && rights_wait g
rights_wait (sequential x f g) = rights_wait f && length (pending_calls g) == 0
rights_wait (pruning x f g) = rights_wait f && rights_wait g
rights_wait (pending k s v c) = true

-- each definition that is called has a number below n
unfoldable pub numbers_below : ℕ → Expression → Bool
numbers_below n stop = true
numbers_below n (site_call s p) = true
numbers_below n (definition_call i p) = nat_lt i n
numbers_below n (parallel f g) = numbers_below n f && numbers_below n g
numbers_below n (sequential x f g) = numbers_below n f && numbers_below n g
numbers_below n (pruning x f g) = numbers_below n f && numbers_below n g
numbers_below n (pending k s v c) = true

-- Of the definitions: no variable is free in a body but the formal; and what else a body keeps.
abbrev pub FormalsBind : List Definition → Type 0
FormalsBind ds = (d : Definition) (x : ℕ) → Has ds d × (free x d.body ≡ true) → x ≡ d.formal

abbrev pub BodiesFit : List Definition → Type 0
BodiesFit ds = (d : Definition) → Has ds d → (length (pending_calls d.body) ≡ 0) × (numbers_below (length ds) d.body ≡ true) × Ranged d.body × (size d.body ≤ 4096)

-- Of the expression, over these definitions.
abbrev pub ExpressionFits : List Definition → Expression → Type 0
ExpressionFits ds e = (bytes (simplified e) ≡ bytes e) × DistinctTickets e × Closed e × ((rights_wait e ≡ true) × (numbers_below (length ds) e ≡ true) × Ranged e)

-- Of each pending call, with so many tickets issued, at this clock.
abbrev pub PendingFit : ℕ → ℕ → Expression → Type 0
PendingFit issued clock e = (p : Pending) → Has (pending_calls e) p → (1 ≤ p.ticket) × (p.ticket ≤ issued) × (p.since ≤ clock)

-- Of the totals of each site.
abbrev pub TotalsFit : ℕ → (ℕ → Totals) → Expression → Type 0
TotalsFit issued totals e = (site : ℕ) → ((totals site).called ≡ ended (totals site) + standing_at site e) × ((totals site).called ≤ issued)

-- Of form, record, clock and tickets.
abbrev pub CountsFit : ℕ → ℕ → List Entry → Expression → Type 0
CountsFit issued clock events e = (size e ≤ largest_form) × (length events ≤ longest_record) × (clock ≤ last_clock) × (issued ≤ length events)

-- Of all that changes when a run moves on.
abbrev pub StateFits : State → Type 0
StateFits s =
    ExpressionFits s.definitions s.expression
    × PendingFit s.issued s.clock s.expression
    × TotalsFit s.issued s.totals s.expression
    × CountsFit s.issued s.clock s.events s.expression

-- These three say what a state keeps, no less and no more.
abbrev pub Facts : State → Type 0
Facts s = FormalsBind s.definitions × BodiesFit s.definitions × StateFits s

abbrev pub FactsSayWhatIsKept : Type 0
FactsSayWhatIsKept = (s : State) → Keeps s ↔ Facts s
