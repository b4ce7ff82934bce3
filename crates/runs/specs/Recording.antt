-- What it means that a history records a timed trace, or follows it up to a limit. Assumes nothing.
use Rattle.std.specs.Prelude.{◌≡◌, ℕ, ◌+◌, ◌<◌, true, List, [], ◌∷◌, ◌++◌, map, Ok, Err}
use Rattle.std.specs.List.{AllByRecursion}
use Rattle.orc.specs.Meaning.{Meaning}
use Rattle.orc.specs.Expressions.{Expression}
use Rattle.orc.specs.Calls.{Pending}
use Rattle.orc.specs.Executions.{Event, did, Execution}
use Rattle.orc.specs.Traces.{Timely, Trace}
use Rattle.orc.specs.Files.{File, world}
use Rattle.runs.specs.declared.call.Call.{Call}
use Rattle.runs.specs.declared.call.Call.TheVariants.{Go, Answer, Wait}
use Rattle.runs.specs.declared.refusal.Refusal.{Refusal}
use Rattle.runs.specs.Refusals.{is_limit}
use Rattle.runs.specs.States.{Entry, State, world_of, begun}
use Rattle.runs.specs.Outcomes.{Response, Takes, Outcome}
use Rattle.runs.specs.Histories.{History}

-- recorded events, as events of a trace: no arrival is among them
abbrev pub listed : List Entry → List Event
listed es = map (λ x. did x.tick x.act) es

-- A timed trace of the file's goal, begun at tick 0, at some depth, with no arrival.
pub record TraceOfGoal (m : Meaning) (file : File) (es : List Entry) (n : ℕ) : Type 0 where
  pub depth : ℕ
  pub timely : Timely 0 (listed es) n
  pub trace : Trace (world m file) depth 0 file.goal (listed es) n

-- numbers that a caller can give: 32 bits, and 16 for a value
abbrev pub InRange : Call → Type 0
InRange (Go n) = n < 4294967296
InRange (Answer k v) = (k < 4294967296) × (v < 65536)
InRange (Wait d) = d < 4294967296

-- A run of the file that came to a state by accepted calls, each with numbers that a caller can give.
pub record Reached (m : Meaning) (file : File) (s : State) : Type 0 where
  pub calls : List Call
  pub responses : List Response
  pub history : History m (begun file) calls responses s
  pub accepted : AllByRecursion (λ r. r ≡ Ok tt) responses
  pub in_range : AllByRecursion InRange calls

-- The events es and the end n are recorded: a run comes to a state with exactly these events, and this clock.
pub record Recorded (m : Meaning) (file : File) (es : List Entry) (n : ℕ) : Type 0 where
  pub state : State
  pub reached : Reached m file state
  pub same_events : state.events ≡ es
  pub same_end : state.clock ≡ n

-- the call is refused by a limit
pub record MeetsLimit (m : Meaning) (s : State) (c : Call) : Type 0 where
  pub refusal : Refusal
  pub limit : is_limit refusal ≡ true
  pub refused : Outcome m s c (Err refusal) s

-- Needs m s es n c: for the events es that are still to come, and the end n, the call c is needed next. That is the wait up
-- to the next event, or to the end, if it is later than the clock; else a go or answer whose transition makes the next
-- event, and after which the rest is an execution of what is left.
pub data Needs (m : Meaning) (s : State) : List Entry → ℕ → Call → Type 0 where
  wait_to_event : {x : Entry} {es : List Entry} {n d : ℕ} → s.clock < x.tick → s.clock + d ≡ x.tick → Needs m s (x ∷ es) n (Wait d)
  wait_to_end : {n d : ℕ} → s.clock < n → s.clock + d ≡ n → Needs m s [] n (Wait d)
  make_event : {x : Entry} {es : List Entry} {n : ℕ} {c : Call} {gone : List Pending} {e : Expression} → x.tick ≡ s.clock → Takes m s c x.act gone e → Execution (world_of m s) s.clock e (listed es) n → Needs m s (x ∷ es) n c

-- The events es and the end n are followed up to a limit: a run comes to a state with the first of the events, its clock not
-- past the next one or the end, and the call that is needed next is refused by a limit.
pub record Followed (m : Meaning) (file : File) (es : List Entry) (n : ℕ) : Type 0 where
  pub state : State
  pub reached : Reached m file state
  pub rest : List Entry
  pub first_events : state.events ++ rest ≡ es
  pub in_time : Timely state.clock (listed rest) n
  pub needed : Call
  pub needs : Needs m state rest n needed
  pub needed_in_range : InRange needed
  pub limit : MeetsLimit m state needed
