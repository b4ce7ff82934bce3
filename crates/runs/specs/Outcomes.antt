-- What go, answer and wait answer, and what they leave. Assumes nothing.
--
-- Outcome m s c r s' is a relation: in state s, over the meaning m, the call c is answered by r and leaves s'. A call is
-- refused, and then the state stays; or it makes a transition of the expression; or it lets time pass.
use Rattle.std.specs.Prelude.{◌≡◌, ℕ, suc, ◌+◌, ◌<◌, ◌≤◌, Bool, true, false, not, ◌⊎◌, List, [], ◌∷◌, ◌++◌, length, Ok, Err, filter, Result}
use Rattle.std.specs.List.{ContainsAt as Has}
use Rattle.orc.specs.Meaning.{Meaning, can_stand, can_reply}
use Rattle.orc.specs.Expressions.{Expression, size}
use Rattle.orc.specs.Simplified.{simplified}
use Rattle.orc.specs.Calls.{due_count, Pending, pending_calls, handle_at, lapses, lapsed}
use Rattle.orc.specs.Steps.{Act, due, reply, Step, Pass}
use Rattle.orc.specs.Sound.{standing}
use Rattle.orc.specs.Laws.{begun as made}
use Rattle.runs.specs.declared.call.Call.{Call}
use Rattle.runs.specs.declared.call.Call.TheVariants.{Go, Answer, Wait}
use Rattle.runs.specs.declared.refusal.Refusal.{Refusal}
use Rattle.runs.specs.declared.refusal.Refusal.TheVariants.{NotLoaded, NoneDue, NotStanding, OutsideEveryWindow, DueFirst, Overdue, ClockEnd, Outgrown, RecordFull}
use Rattle.runs.specs.States.{State, world_of}
use Rattle.runs.specs.Tickets.{has_ticket, Tickets, counted_in}

-- accepted, or refused
abbrev pub Response : Type 0
Response = Result (Unit {0}) Refusal

-- What a run can hold: the bytes of its expression's form, the events of its record, and its clock.
abbrev pub largest_form : ℕ
largest_form = 4096

abbrev pub longest_record : ℕ
longest_record = 512

abbrev pub last_clock : ℕ
last_clock = 4294967294

-- Takes m s c a gone e: go and answer make a transition at the clock, that of the leaf that they name. Its act is a, it
-- withdraws the pending calls gone, and the expression becomes e. A site call that it makes gets the next ticket, one more
-- than were issued.
pub data Takes (m : Meaning) (s : State) : Call → Act → List Pending → Expression → Type 0 where
  by_go : {n : ℕ} {a : Act} {gone : List Pending} {e : Expression} → Step (world_of m s) s.clock (suc s.issued) s.expression (due n) a gone e → Takes m s (Go n) a gone e
  by_answer : {k v : ℕ} {a : Act} {gone : List Pending} {e : Expression} → Step (world_of m s) s.clock (suc s.issued) s.expression (reply k v) a gone e → Takes m s (Answer k v) a gone e

-- What an accepted call leaves of e, the transition's result, or for wait the standing expression: after go and wait the
-- pending calls that no window reaches lapse, and each call ends with simplification.
abbrev pub settled : Meaning → State → Call → Expression → Expression
settled m s (Go n) e = simplified (lapsed m s.clock e)
settled m s (Answer k v) e = simplified e
settled m s (Wait d) e = simplified (lapsed m (s.clock + d) e)

-- the pending calls that lapse so
abbrev pub lapsing : Meaning → State → Call → Expression → List Pending
lapsing m s (Go n) e = filter (lapses m s.clock) (pending_calls e)
lapsing m s (Answer k v) e = []
lapsing m s (Wait d) e = filter (lapses m (s.clock + d)) (pending_calls e)

-- the pending call that is answered: the one whose ticket the call names
abbrev pub answering : State → Call → List Pending
answering s (Go n) = []
answering s (Answer k v) = filter (has_ticket k) (pending_calls s.expression)
answering s (Wait d) = []

-- the tickets that a transition and a wait issue and end, by cause
abbrev pub stepped_tickets : Meaning → State → Call → Act → List Pending → Expression → Tickets
stepped_tickets m s c a gone e = record { called = made s.clock (suc s.issued) a; answered = answering s c; withdrawn = gone; lapsed = lapsing m s c e }

abbrev pub waited_tickets : Meaning → State → ℕ → Tickets
waited_tickets m s d = record { called = []; answered = []; withdrawn = []; lapsed = lapsing m s (Wait d) s.expression }

-- what a transition leaves: one more event, at the end of the record
abbrev pub stepped : Meaning → State → Call → Act → List Pending → Expression → State
stepped m s c a gone e =
    record {
      loaded = s.loaded;
      definitions = s.definitions;
      clock = s.clock;
      expression = settled m s c e;
      issued = s.issued + length (made s.clock (suc s.issued) a);
      events = s.events ++ (record { tick = s.clock; act = a } ∷ []);
      totals = counted_in s (stepped_tickets m s c a gone e);
    }

-- what d ticks leave: the clock moves, and nothing is recorded
abbrev pub waited : Meaning → State → ℕ → State
waited m s d =
    record {
      loaded = s.loaded;
      definitions = s.definitions;
      clock = s.clock + d;
      expression = settled m s (Wait d) s.expression;
      issued = s.issued;
      events = s.events;
      totals = counted_in s (waited_tickets m s d);
    }

-- First f xs x: x is the first of xs that passes the test f.
pub data First {X : Type 0} (f : X → Bool) : List X → X → Type 0 where
  at_once : {x : X} {xs : List X} → f x ≡ true → First f (x ∷ xs) x
  further_on : {x y : X} {xs : List X} → f y ≡ false → First f xs x → First f (y ∷ xs) x

-- a pending call that cannot be unanswered at tick n: it is past every window's latest age, and its site is not silent
abbrev pub late : Meaning → ℕ → Pending → Bool
late m n p = not (can_stand (handle_at m p) p.since n)

-- Refuses m s c r: the call c is refused by r. The refusals of a call are tried in the order in which they stand here: a
-- premise says of each that no earlier one applies.
pub data Refuses (m : Meaning) (s : State) : Call → Refusal → Type 0 where
  is_not_loaded : {c : Call} → s.loaded ≡ false → Refuses m s c NotLoaded
  -- go names a number that no due call has
  is_none_due : {n : ℕ} → s.loaded ≡ true → due_count s.expression ≤ n → Refuses m s (Go n) (NoneDue (due_count s.expression))
  -- answer names a ticket that no pending call has
  is_not_standing : {k v : ℕ} → s.loaded ≡ true → standing k s.expression ≡ 0 → Refuses m s (Answer k v) (NotStanding k)
  -- the ticket stands, and no window admits the reply now
  is_outside_every_window : {v : ℕ} (p : Pending) → s.loaded ≡ true → Has (pending_calls s.expression) p → can_reply (handle_at m p) p.since s.clock v ≡ false → Refuses m s (Answer p.ticket v) (OutsideEveryWindow p.ticket)
  -- the transition could be made, but its event has no room in the record
  is_record_full : {c : Call} {a : Act} {gone : List Pending} {e : Expression} → s.loaded ≡ true → Takes m s c a gone e → longest_record ≤ length s.events → Refuses m s c RecordFull
  -- it has, but the form of what it leaves would be too large
  is_outgrown : {c : Call} {a : Act} {gone : List Pending} {e : Expression} → s.loaded ≡ true → Takes m s c a gone e → length s.events < longest_record → largest_form < size (settled m s c e) → Refuses m s c (Outgrown (size (settled m s c e)))
  -- time is to pass over a call that is due
  is_due_first : {d : ℕ} → s.loaded ≡ true → 0 < d → 0 < due_count s.expression → Refuses m s (Wait d) (DueFirst (due_count s.expression))
  -- time is to pass over the last chance of a reply; the first such pending call from the left is named
  is_overdue : {d : ℕ} {p : Pending} → s.loaded ≡ true → (d ≡ 0) ⊎ (due_count s.expression ≡ 0) → First (late m (s.clock + d)) (pending_calls s.expression) p → Refuses m s (Wait d) (Overdue p.ticket)
  -- the time could pass, but the clock cannot show it
  is_clock_end : {d : ℕ} → s.loaded ≡ true → Pass (world_of m s) s.clock (s.clock + d) s.expression → last_clock < s.clock + d → Refuses m s (Wait d) (ClockEnd s.clock)

pub data Outcome (m : Meaning) (s : State) : Call → Response → State → Type 0 where
  refuses : {c : Call} {r : Refusal} → Refuses m s c r → Outcome m s c (Err r) s
  takes : {c : Call} {a : Act} {gone : List Pending} {e : Expression} → s.loaded ≡ true → Takes m s c a gone e → length s.events < longest_record → size (settled m s c e) ≤ largest_form → Outcome m s c (Ok tt) (stepped m s c a gone e)
  passes : {d : ℕ} → s.loaded ≡ true → Pass (world_of m s) s.clock (s.clock + d) s.expression → s.clock + d ≤ last_clock → Outcome m s (Wait d) (Ok tt) (waited m s d)
