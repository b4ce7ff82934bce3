-- What is proved of executions and timed traces: the two agree, and only the ticks since the beginning matter. Assumes
-- nothing.
--
-- Traces have no rule for a pending call. So executions and traces are compared for expressions and definitions that hold
-- none to begin with. What is said of traces alone needs no such premise.
use Rattle.std.specs.Prelude.{◌≡◌, ℕ, ◌+◌, List, map}
use Rattle.orc.specs.Expressions.{Expression, World}
use Rattle.orc.specs.Calls.{NothingPending, NothingPendingIn}
use Rattle.orc.specs.Executions.{Event, did, arrived, Execution}
use Rattle.orc.specs.Traces.{Timely, Trace}

-- no definition of the world holds a pending call
abbrev pub NothingPendingWithin : World → Type 0
NothingPendingWithin W = NothingPendingIn W.definitions

-- Every execution is a timed trace, at some depth.
abbrev pub ExecutionsAreTraces : Type 0
ExecutionsAreTraces =
    (W : World) (t n : ℕ) (e : Expression) (ms : List Event) →
    NothingPendingWithin W → NothingPending e → Execution W t e ms n →
    (d : ℕ) × Timely t ms n × Trace W d t e ms n

-- Every timed trace, at any depth, is an execution.
abbrev pub TracesAreExecutions : Type 0
TracesAreExecutions =
    (W : World) (d t n : ℕ) (e : Expression) (ms : List Event) →
    NothingPendingWithin W → NothingPending e → Timely t ms n → Trace W d t e ms n →
    Execution W t e ms n

-- an event at the tick that φ makes of its own
abbrev pub retimed : (ℕ → ℕ) → Event → Event
retimed φ (did u a) = did (φ u) a
retimed φ (arrived u x v) = arrived (φ u) x v

-- events, each t ticks later
abbrev pub raised : ℕ → List Event → List Event
raised t ms = map (retimed (λ u. t + u)) ms

-- A timed trace begun at tick 0 is one begun at tick t, if each event and the end come t ticks later.
abbrev pub BegunLaterIsRaised : Type 0
BegunLaterIsRaised =
    (W : World) (d t n : ℕ) (e : Expression) (ms : List Event) →
    Timely 0 ms n → Trace W d 0 e ms n →
    Timely t (raised t ms) (t + n) × Trace W d t e (raised t ms) (t + n)

-- Every timed trace begun at tick t comes so from one begun at tick 0.
abbrev pub BegunLaterIsOnlyRaised : Type 0
BegunLaterIsOnlyRaised =
    (W : World) (d t n : ℕ) (e : Expression) (ms : List Event) →
    Timely t ms n → Trace W d t e ms n →
    (ms₀ : List Event) × (n₀ : ℕ) × (ms ≡ raised t ms₀) × (n ≡ t + n₀) × Timely 0 ms₀ n₀ × Trace W d 0 e ms₀ n₀
