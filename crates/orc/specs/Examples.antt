-- Worked examples: what small expressions can be seen to do, and what they can never be seen to do. Assumes nothing.
--
-- The sites are the four local ones, and a sensor of the door: it replies 1 at some tick from 2 to 9 after the call, or
-- never. Every example begins at tick 0.
use Rattle.std.specs.Prelude.{◌≡◌, ℕ, zero, suc, ◌+◌, ◌*◌, ◌<◌, ◌≤◌, true, cond, List, [], ◌∷◌, ◌++◌, ◌==◌}
use Rattle.orc.specs.Meaning.{Handle, Meaning, known}
use Rattle.orc.specs.Local.{local}
use Rattle.orc.specs.Expressions.{bytes, Parameter, value, variable, Expression, site_call, definition_call, parallel, sequential, pruning, pending, Definition, World}
use Rattle.orc.specs.Variables.{substitute}
use Rattle.orc.specs.Steps.{Act, called, inner, out, reply, Step}
use Rattle.orc.specs.Executions.{Event, did, Execution}
use Rattle.orc.specs.Traces.{Timely, Trace}

abbrev pub sensor_replies : ℕ → Handle
sensor_replies v = record { windows = record { earliest = 2; latest = 9; lowest = 1; highest = 1 } ∷ []; silent = true }

abbrev pub sites : Meaning
sites s = cond (s == 4) (known sensor_replies) (local s)

abbrev pub with_definitions : List Definition → World
with_definitions ds = record { meaning = sites; definitions = ds }

abbrev pub plain : World
plain = with_definitions []

abbrev pub call_let : Parameter → Expression
call_let p = site_call 0 p

abbrev pub call_if : Parameter → Expression
call_if p = site_call 1 p

abbrev pub call_rtimer : Parameter → Expression
call_rtimer p = site_call 3 p

abbrev pub call_sensor : Expression
call_sensor = site_call 4 (value 0)

-- The expression e shows the events ms, and no more up to tick n: as an execution, and as a timed trace at some depth.
pub record Shows (W : World) (e : Expression) (ms : List Event) (n : ℕ) : Type 0 where
  pub execution : Execution W 0 e ms n
  pub timely : Timely 0 ms n
  pub depth : ℕ
  pub trace : Trace W depth 0 e ms n

-- no timed trace of e has the events ms and the end n
abbrev pub NeverShows : World → Expression → List Event → ℕ → Type 0
NeverShows W e ms n = (d : ℕ) → Timely 0 ms n → Trace W d 0 e ms n → ⊥

-- when e has shown the events ms, no act comes next, at whatever tick and whatever follows it
abbrev pub NothingAfter : World → Expression → List Event → Type 0
NothingAfter W e ms = (t : ℕ) (a : Act) (rest : List Event) (n : ℕ) → NeverShows W e (ms ++ (did t a ∷ rest)) n

-- Time-out. The sensor is called, and a timer of 5 ticks beside it, under a pruning: whichever replies first gives x its
-- value, and that is published. If the sensor stays silent, the timer's 0 comes out at tick 5; if it replies at tick 4, its 1.
abbrev pub guarded : Expression
guarded = pruning 0 (call_let (variable 0)) (parallel call_sensor (call_rtimer (value 5)))

abbrev pub timed_out : List Event
timed_out = did 0 (called 4 0) ∷ did 0 (called 3 5) ∷ did 5 inner ∷ did 5 (called 0 0) ∷ did 5 (out 0) ∷ []

abbrev pub replied_in_time : List Event
replied_in_time = did 0 (called 4 0) ∷ did 0 (called 3 5) ∷ did 4 inner ∷ did 4 (called 0 1) ∷ did 4 (out 1) ∷ []

pub record ATimerEndsTheWait : Type 0 where
  pub silent_sensor : (n : ℕ) → 5 ≤ n → Shows plain guarded timed_out n
  pub sensor_in_time : (n : ℕ) → 4 ≤ n → Shows plain guarded replied_in_time n

-- The first reply wins. Of let(1) and let(2), both called, the second is answered first: 2 is put in for x and published.
-- The step that binds x withdraws the other call, with ticket 1, which still waited.
abbrev pub race : Expression
race = pruning 0 (call_let (variable 0)) (parallel (call_let (value 1)) (call_let (value 2)))

abbrev pub both_called : Expression
both_called = pruning 0 (call_let (variable 0)) (parallel (pending 1 0 1 0) (pending 2 0 2 0))

pub record TheFirstReplyWins : Type 0 where
  pub second_published : (n : ℕ) → Shows plain race (did 0 (called 0 1) ∷ did 0 (called 0 2) ∷ did 0 inner ∷ did 0 (called 0 2) ∷ did 0 (out 2) ∷ []) n
  pub loser_withdrawn : (k : ℕ) → Step plain 0 k both_called (reply 2 2) inner (record { ticket = 1; site = 0; argument = 1; since = 0 } ∷ []) (call_let (value 2))

-- Each reply spawns a copy. The left part of a sequential replies twice: let(1) at once, and a timer at tick 3. For each
-- reply a copy of the right part begins, with the reply for x, so 1 and 0 are published. The left part goes on meanwhile.
abbrev pub twice : Expression
twice = sequential 7 (parallel (call_let (value 1)) (call_rtimer (value 3))) (call_let (variable 7))

pub record EachReplySpawnsACopy : Type 0 where
  pub two_published : (n : ℕ) → 3 ≤ n → Shows plain twice (did 0 (called 0 1) ∷ did 0 (called 3 3) ∷ did 0 inner ∷ did 0 (called 0 1) ∷ did 0 (out 1) ∷ did 3 inner ∷ did 3 (called 0 0) ∷ did 3 (out 0) ∷ []) n

-- Shadowed variables. Two prunings bind the same variable, one within the other, and each waits for its own: the 4 of the
-- outer one never reaches the call of let, which has the inner one's 0 when its timer of 9 ticks replies. So with two
-- sequentials: let has the 2 of the nearer one.
abbrev pub inner_pruning : Expression
inner_pruning = pruning 0 (call_let (variable 0)) (call_rtimer (value 9))

abbrev pub both_prunings : Expression
both_prunings = pruning 0 inner_pruning (call_let (value 4))

abbrev pub both_sequentials : Expression
both_sequentials = sequential 0 (call_let (value 1)) (sequential 0 (call_let (value 2)) (call_let (variable 0)))

pub record TheNearestBinderCounts : Type 0 where
  pub as_bytes : bytes both_prunings ≡ 5 ∷ 0 ∷ 5 ∷ 0 ∷ 1 ∷ 0 ∷ 1 ∷ 0 ∷ 0 ∷ 1 ∷ 3 ∷ 0 ∷ 0 ∷ 9 ∷ 1 ∷ 0 ∷ 0 ∷ 0 ∷ 4 ∷ []
  pub outer_kept_out : substitute 4 0 inner_pruning ≡ inner_pruning
  pub of_two_prunings : (n : ℕ) → 9 ≤ n → Shows plain both_prunings (did 0 (called 0 4) ∷ did 0 inner ∷ did 0 (called 3 9) ∷ did 9 inner ∷ did 9 (called 0 0) ∷ did 9 (out 0) ∷ []) n
  pub of_two_sequentials : (n : ℕ) → Shows plain both_sequentials (did 0 (called 0 1) ∷ did 0 inner ∷ did 0 (called 0 2) ∷ did 0 inner ∷ did 0 (called 0 2) ∷ did 0 (out 2) ∷ []) n

-- Recursion. A definition that calls itself: beat(x) publishes x, and x ticks later it is called again. Called with 3 it beats
-- every 3 ticks, as often as one likes: n rounds are shown, for every n.
abbrev pub beat : Definition
beat = record { formal = 0; body = parallel (call_let (variable 0)) (sequential 1 (call_rtimer (variable 0)) (definition_call 0 (variable 0))) }

abbrev pub rounds : ℕ → ℕ → List Event
rounds t zero = []
rounds t (suc n) = did t inner ∷ did t (called 0 3) ∷ did t (out 3) ∷ did t (called 3 3) ∷ did (t + 3) inner ∷ rounds (t + 3) n

pub record ADefinitionMayCallItself : Type 0 where
  pub beats : (n : ℕ) → Shows (with_definitions (beat ∷ [])) (definition_call 0 (value 3)) (rounds 0 n) (3 * n)

-- A value that never arrives. The right part of a pruning is if(0), which stays silent. So the call of let with x is never
-- made, and time passes for ever.
abbrev pub unbound : Expression
unbound = pruning 0 (call_let (variable 0)) (call_if (value 0))

pub record AValueMayNeverArrive : Type 0 where
  pub time_passes : (n : ℕ) → Shows plain unbound (did 0 (called 1 0) ∷ []) n
  pub never_made : NothingAfter plain unbound (did 0 (called 1 0) ∷ [])

-- No reply after pruning. When the timer has ended the wait at tick 5, the sensor's window is still open, up to tick 9; but
-- its call is withdrawn, and nothing comes of it.
abbrev pub NoReplyAfterPruning : Type 0
NoReplyAfterPruning = NothingAfter plain guarded timed_out

-- No time passes over a due call. A timer of 2 ticks is called, and let(5) beside it is due: until let is called no later
-- tick comes, with an act or without.
abbrev pub beside_due : Expression
beside_due = parallel (call_rtimer (value 2)) (call_let (value 5))

pub record NoTimeOverADueCall : Type 0 where
  pub no_later_act : (t : ℕ) (a : Act) (rest : List Event) (n : ℕ) → 0 < t → NeverShows plain beside_due (did 0 (called 3 2) ∷ did t a ∷ rest) n
  pub no_later_end : (n : ℕ) → 0 < n → NeverShows plain beside_due (did 0 (called 3 2) ∷ []) n

-- No second reply. The sensor may reply at tick 2 and at tick 3, but to one call it replies once.
pub record NoSecondReply : Type 0 where
  pub one_reply : (n : ℕ) → 2 ≤ n → Shows plain call_sensor (did 0 (called 4 0) ∷ did 2 (out 1) ∷ []) n
  pub none_behind_it : NothingAfter plain call_sensor (did 0 (called 4 0) ∷ did 2 (out 1) ∷ [])
