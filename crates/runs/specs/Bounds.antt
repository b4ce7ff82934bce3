-- What every state of a run keeps. Assumes nothing.
use Rattle.std.specs.Prelude.{◌≡◌, ℕ, ◌+◌, ◌≤◌, Bool, true, ◌&&◌, List, length, nat_le}
use Rattle.std.specs.List.{AllByRecursion}
use Rattle.orc.specs.Meaning.{Meaning, is_known, within_reach}
use Rattle.orc.specs.Expressions.{Parameter, value, variable, Expression, stop, site_call, definition_call, parallel, sequential, pruning, pending, size, Definition}
use Rattle.orc.specs.Simplified.{simplified}
use Rattle.orc.specs.Calls.{pending_calls, handle_at, RightsUnbegun}
use Rattle.orc.specs.Sound.{Closed, NumbersWithin, DistinctTickets, SoundDefinitions}
use Rattle.runs.specs.States.{State}
use Rattle.runs.specs.Tickets.{standing_at}
use Rattle.runs.specs.Outcomes.{largest_form, longest_record, last_clock}
use Rattle.runs.specs.Counting.{ended}

-- Given a test of sites, one of variables and one of values: all that stand in an expression pass, in calls that are pending
-- too. A variable stands where it is bound, and in a call that waits for it.
abbrev pub parameter_passes : (ℕ → Bool) → (ℕ → Bool) → Parameter → Bool
parameter_passes variables values (value v) = values v
parameter_passes variables values (variable x) = variables x

unfoldable pub operands_pass : (ℕ → Bool) → (ℕ → Bool) → (ℕ → Bool) → Expression → Bool
operands_pass sites variables values stop = true
operands_pass sites variables values (site_call s p) = sites s && parameter_passes variables values p
operands_pass sites variables values (definition_call i p) = parameter_passes variables values p
operands_pass sites variables values (parallel f g) = operands_pass sites variables values f && operands_pass sites variables values g
operands_pass sites variables values (sequential x f g) = variables x && (operands_pass sites variables values f && operands_pass sites variables values g)
operands_pass sites variables values (pruning x f g) = variables x && (operands_pass sites variables values f && operands_pass sites variables values g)
operands_pass sites variables values (pending k s v c) = sites s && values v

-- operands are in range
abbrev pub Ranged : Expression → Type 0
Ranged e = operands_pass (λ s. nat_le s 31) (λ x. nat_le x 31) (λ v. nat_le v 65535) e ≡ true

-- sites are known
abbrev pub Known : Meaning → Expression → Type 0
Known m e = operands_pass (λ s. is_known (m s)) (λ x. true) (λ v. true) e ≡ true

-- What the definitions keep. They stood in one file of at most 4,096 bytes.
pub record KeptDefinitions (ds : List Definition) : Type 0 where
  pub sound : SoundDefinitions ds
  pub ranged : AllByRecursion (λ d. Ranged d.body) ds
  pub fit : AllByRecursion (λ d. size d.body ≤ 4096) ds

-- What an expression keeps over these definitions, with so many tickets issued, at this clock.
pub record KeptExpression (ds : List Definition) (issued clock : ℕ) (e : Expression) : Type 0 where
  -- each leaf has one transition, no variable is free, and operands are in range
  pub distinct : DistinctTickets e
  pub unbegun : RightsUnbegun e
  pub numbers : NumbersWithin ds e
  pub closed : Closed e
  pub ranged : Ranged e
  -- each pending call has a ticket that was issued, and was made no later than now
  pub tickets_issued : AllByRecursion (λ p. (1 ≤ p.ticket) × (p.ticket ≤ issued)) (pending_calls e)
  pub made_before : AllByRecursion (λ p. p.since ≤ clock) (pending_calls e)

-- What a state keeps by itself, whatever its sites may reply.
pub record Keeps (s : State) : Type 0 where
  pub definitions_kept : KeptDefinitions s.definitions
  pub expression_kept : KeptExpression s.definitions s.issued s.clock s.expression
  -- nothing is left to simplify
  pub simple : simplified s.expression ≡ s.expression
  -- form, record and clock are within their limits, and each ticket has its event
  pub form_fits : size s.expression ≤ largest_form
  pub record_fits : length s.events ≤ longest_record
  pub clock_fits : s.clock ≤ last_clock
  pub tickets_recorded : s.issued ≤ length s.events
  -- of each site, as many tickets were called as ended or still stand, and no more than were issued
  pub balanced : (site : ℕ) → (s.totals site).called ≡ ended (s.totals site) + standing_at site s.expression
  pub called_issued : (site : ℕ) → (s.totals site).called ≤ s.issued

-- What a state of a run keeps, over the meaning m: what it keeps by itself, and two facts more. All sites are known, in the
-- definitions too. Each pending call has a window that reaches now: so none is overdue, and none waits for a reply that
-- cannot come any more.
pub record Holds (m : Meaning) (s : State) : Type 0 where
  pub keeps : Keeps s
  pub known : Known m s.expression
  pub definitions_known : AllByRecursion (λ d. Known m d.body) s.definitions
  pub within_reach_now : AllByRecursion (λ p. within_reach (handle_at m p) p.since s.clock ≡ true) (pending_calls s.expression)
