-- Every record is a timed trace of the goal. Assumes nothing.
use Rattle.std.proofs.Common.{◌≡◌, ℕ, ◌+◌, List, [], ◌∷◌, ◌++◌, sym, subst, append_assoc}
use Rattle.std.proofs.lemmas.List.{append-nil, map_push}
use Rattle.orc.specs.Meaning.{Meaning, Lawful}
use Rattle.orc.specs.Expressions.{Expression}
use Rattle.orc.specs.Calls.{Pending, pending_calls}
use Rattle.orc.specs.Steps.{Act, Pass}
use Rattle.orc.specs.Executions.{Event, did, acts, Execution}
use Rattle.orc.specs.Files.{File, world, WellFormed}
use Rattle.orc.proofs.Alike.{simplification_keeps_executions}
use Rattle.orc.proofs.Decomposing.{executions_are_traces}
use Rattle.orc.proofs.Times.{execution_earlier}
use Rattle.runs.specs.declared.call.Call.{Call}
use Rattle.runs.specs.States.{Entry, State, world_of, begun}
use Rattle.runs.specs.Outcomes.{Response, Takes, by_go, by_answer, Outcome, refuses, takes, passes}
use Rattle.runs.specs.Histories.{History, start, after}
use Rattle.runs.specs.Bounds.{Holds}
use Rattle.runs.specs.Recording.{listed}
use Rattle.runs.specs.Faithful.{EveryRecordIsATrace, ForAllFiles}
use Rattle.runs.proofs.Standing.{reached_stands}
use Rattle.runs.proofs.Passing.{pass_now}
use Rattle.runs.proofs.Keeping.{goal_nothing_pending, definitions_kept}
use Rattle.runs.proofs.Holding.{held_at_begin}
use Rattle.runs.proofs.Settling.{settled_same, waited_same}
use Rattle.runs.proofs.Lasting.{held_along}

-- a state's expression can stay at the clock
pub stays_now : {m : Meaning} {s : State} → Holds m s → Pass (world_of m s) s.clock s.clock s.expression
stays_now {m} {s} h = pass_now (world_of m s) s.clock s.expression (reached_stands m s.clock (pending_calls s.expression) h.within_reach_now)

-- the transition that go or answer makes, as an event of an execution
pub taken_event : {m : Meaning} {s : State} {c : Call} {a : Act} {gone : List Pending} {e : Expression} → Holds m s → Takes m s c a gone e → (ms : List Event) (n : ℕ) → Execution (world_of m s) s.clock e ms n → Execution (world_of m s) s.clock s.expression (did s.clock a ∷ ms) n
taken_event h (by_go st) ms n x = (_, record { passes = stays_now h; moves = acts st }, x)
taken_event h (by_answer st) ms n x = (_, record { passes = stays_now h; moves = acts st }, x)

-- Whatever the state's expression does next, the goal does after the record.
abbrev Continued : Meaning → File → State → Type 0
Continued m file s = (ms : List Event) (n : ℕ) → Execution (world_of m s) s.clock s.expression ms n → Execution (world m file) 0 file.goal (listed s.events ++ ms) n

listed_push : (es : List Entry) (x : Entry) (ms : List Event) → listed (es ++ (x ∷ [])) ++ ms ≡ listed es ++ (did x.tick x.act ∷ ms)
listed_push es x ms = rw (map_push (λ x. did x.tick x.act) es x) (append_assoc (listed es) (did x.tick x.act ∷ []) ms)

continues : {m : Meaning} (file : File) {s s' : State} {c : Call} {r : Response} → Lawful m → Holds m s → Outcome m s c r s' → Continued m file s → Continued m file s'
continues file laws h (refuses x) k ms n x' = k ms n x'
continues {m} file {s} laws h (takes {a = a} l t short fits) k ms n x =
    subst (λ es. Execution (world m file) 0 file.goal es n) (sym (listed_push s.events (record { tick = s.clock; act = a }) ms)) (k (did s.clock a ∷ ms) n (taken_event h t ms n ((settled_same laws h t ms n).1 x)))
continues {m} file {s} laws h (passes {d} l p near) k ms n x =
    k ms n (execution_earlier (world_of m s) s.clock (s.clock + d) n s.expression ms p ((waited_same laws h d p ms n).1 x))

continued : {m : Meaning} (file : File) {cs : List Call} {rs : List Response} {s : State} → Lawful m → WellFormed m file → History m (begun file) cs rs s → Continued m file s
continued {m} file laws w start ms n x = (simplification_keeps_executions (world m file) (definitions_kept m file w).sound.closed 0 file.goal ms n).1 x
continued {m} file laws w (after r o) ms n x = continues file laws (held_along laws (held_at_begin m file w) r) o (continued file laws w r) ms n x

pub every_record_is_a_trace : ForAllFiles EveryRecordIsATrace
every_record_is_a_trace m file laws w cs rs s r =
    let x = continued file laws w r [] s.clock (stays_now (held_along laws (held_at_begin m file w) r)) in
    let t = executions_are_traces (world m file) 0 s.clock file.goal (listed s.events) (definitions_kept m file w).sound.nothing_pending (goal_nothing_pending m file w) (rw (append-nil (listed s.events)) at x) in
    record { depth = t.0; timely = t.1; trace = t.2 }
