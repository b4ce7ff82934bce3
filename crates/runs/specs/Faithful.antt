-- The theorems on runs. Each holds of every meaning that keeps its ranges and laws, and of every well-formed file. Assumes
-- nothing.
use Rattle.std.specs.Prelude.{◌≡◌, ℕ, ◌≤◌, true, ◌⊎◌, List}
use Rattle.orc.specs.Meaning.{Meaning, Lawful}
use Rattle.orc.specs.Steps.{Act}
use Rattle.orc.specs.Files.{File, WellFormed}
use Rattle.runs.specs.declared.call.Call.{Call}
use Rattle.runs.specs.States.{Entry, shows, State, begun, unloaded}
use Rattle.runs.specs.Outcomes.{Response, Outcome}
use Rattle.runs.specs.Histories.{History}
use Rattle.runs.specs.Bounds.{Keeps, Holds}
use Rattle.runs.specs.Recording.{TraceOfGoal, Recorded, Followed}
use Rattle.runs.specs.Counting.{Counted}
use Rattle.runs.specs.Moving.{OneOutcome, OneHistory, CanBeMade, CanBeWaited}

-- Events with the same kind, number and value are the same act: so a record that is read is no less than the record.
abbrev pub ReadingsTellActs : Type 0
ReadingsTellActs = (a b : Act) → shows a ≡ shows b → a ≡ b

-- At every point of every history the record, ended at the clock, is a timed trace of the file's goal.
abbrev pub EveryRecordIsATrace : Meaning → File → Type 0
EveryRecordIsATrace m file = (cs : List Call) (rs : List Response) (s : State) → History m (begun file) cs rs s → TraceOfGoal m file s.events s.clock

-- Every timed trace of the goal that ends by the last tick is recorded by some run, or followed up to a limit.
abbrev pub EveryTraceIsRecorded : Meaning → File → Type 0
EveryTraceIsRecorded m file = (es : List Entry) (n : ℕ) → n ≤ 4294967295 → TraceOfGoal m file es n → Recorded m file es n ⊎ Followed m file es n

-- Totals are the counts over the history by cause, and no ticket is lost or counted twice.
abbrev pub EveryTicketIsCounted : Meaning → File → Type 0
EveryTicketIsCounted m file = (cs : List Call) (rs : List Response) (s : State) (h : History m (begun file) cs rs s) → Counted m (begun file) cs rs s h

-- At every state of a history each call has exactly one outcome.
abbrev pub EveryCallHasOneOutcome : Meaning → File → Type 0
EveryCallHasOneOutcome m file = (cs : List Call) (rs : List Response) (s : State) → History m (begun file) cs rs s → (c : Call) → OneOutcome m s c

-- What makes a run's record believable.
pub record Faithful (m : Meaning) (file : File) : Type 0 where
  pub every_record_is_a_trace : EveryRecordIsATrace m file
  pub every_trace_is_recorded : EveryTraceIsRecorded m file
  pub every_ticket_is_counted : EveryTicketIsCounted m file
  pub every_call_has_one_outcome : EveryCallHasOneOutcome m file

-- Each list of calls has exactly one history.
abbrev pub CallsHaveOneHistory : Meaning → File → Type 0
CallsHaveOneHistory m file = (cs : List Call) → OneHistory m (begun file) cs

-- At every state of a history whatever can happen can be made to happen, up to the limits.
abbrev pub EveryStepCanBeMade : Meaning → File → Type 0
EveryStepCanBeMade m file = (cs : List Call) (rs : List Response) (s : State) → History m (begun file) cs rs s → CanBeMade m s

abbrev pub PassableTimeCanBeWaited : Meaning → File → Type 0
PassableTimeCanBeWaited m file = (cs : List Call) (rs : List Response) (s : State) → History m (begun file) cs rs s → CanBeWaited m s

-- What a state keeps holds when a run begins, and every outcome keeps it.
pub record StatesKeepTheirBounds (m : Meaning) : Type 0 where
  pub at_begin : (file : File) → WellFormed m file → Holds m (begun file)
  pub unloaded_too : Holds m unloaded
  pub kept : {s s' : State} {c : Call} {r : Response} → Holds m s → Outcome m s c r s' → Holds m s'

-- What a state keeps by itself is enough to go on: no run has to lead to the state, its sites need not be known, and its
-- pending calls may be overdue. Every outcome keeps it, each call has exactly one outcome, and in a loaded run whatever can
-- happen can be made to happen, up to the limits.
pub record KeptStatesGoOn (m : Meaning) : Type 0 where
  pub kept : {s s' : State} {c : Call} {r : Response} → Keeps s → Outcome m s c r s' → Keeps s'
  pub one_outcome : {s : State} → Keeps s → (c : Call) → OneOutcome m s c
  pub can_be_made : {s : State} → Keeps s → s.loaded ≡ true → CanBeMade m s
  pub can_be_waited : {s : State} → s.loaded ≡ true → CanBeWaited m s

-- a statement on a meaning and a file, for all that are lawful and well-formed
abbrev pub ForAllFiles : (Meaning → File → Type 0) → Type 0
ForAllFiles P = (m : Meaning) (file : File) → Lawful m → WellFormed m file → P m file
