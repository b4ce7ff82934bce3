-- What it means that each call has one outcome, and that whatever can happen can be made to happen. Assumes nothing.
use Rattle.std.specs.Prelude.{◌≡◌, ℕ, suc, ◌+◌, false, ◌⊎◌, List, Ok, Err}
use Rattle.std.specs.List.{AllByRecursion}
use Rattle.orc.specs.Meaning.{Meaning}
use Rattle.orc.specs.Expressions.{Expression}
use Rattle.orc.specs.Calls.{Pending}
use Rattle.orc.specs.Steps.{Act, Leaf, due, reply, Step, Pass}
use Rattle.runs.specs.declared.call.Call.{Call}
use Rattle.runs.specs.declared.call.Call.TheVariants.{Go, Answer, Wait}
use Rattle.runs.specs.declared.refusal.Refusal.TheVariants.{NotLoaded, ClockEnd}
use Rattle.runs.specs.States.{State, world_of, unloaded}
use Rattle.runs.specs.Outcomes.{Response, stepped, waited, Outcome}
use Rattle.runs.specs.Histories.{History}
use Rattle.runs.specs.Recording.{InRange, MeetsLimit}

-- The call has an outcome in the state, and only one.
pub record OneOutcome (m : Meaning) (s : State) (c : Call) : Type 0 where
  pub response : Response
  pub next : State
  pub outcome : Outcome m s c response next
  pub only : {r : Response} {s' : State} → Outcome m s c r s' → (r ≡ response) × (s' ≡ next)

-- The calls have a history from the state on, and only one.
pub record OneHistory (m : Meaning) (s₀ : State) (cs : List Call) : Type 0 where
  pub responses : List Response
  pub last : State
  pub history : History m s₀ cs responses last
  pub only : {rs : List Response} {s : State} → History m s₀ cs rs s → (rs ≡ responses) × (s ≡ last)

-- the call that a leaf names
abbrev pub call_of : Leaf → Call
call_of (due n) = Go n
call_of (reply k v) = Answer k v

-- Each transition of the state's expression, with the next ticket, can be made by the call that its leaf names, with its
-- result; or that call meets a limit.
pub record CanBeMade (m : Meaning) (s : State) : Type 0 where
  pub in_range : {l : Leaf} {a : Act} {gone : List Pending} {e : Expression} → Step (world_of m s) s.clock (suc s.issued) s.expression l a gone e → InRange (call_of l)
  pub made : {l : Leaf} {a : Act} {gone : List Pending} {e : Expression} → Step (world_of m s) s.clock (suc s.issued) s.expression l a gone e → Outcome m s (call_of l) (Ok tt) (stepped m s (call_of l) a gone e) ⊎ MeetsLimit m s (call_of l)

-- Time that can pass can be waited, or meets the clock's end.
abbrev pub CanBeWaited : Meaning → State → Type 0
CanBeWaited m s = (d : ℕ) → Pass (world_of m s) s.clock (s.clock + d) s.expression → Outcome m s (Wait d) (Ok tt) (waited m s d) ⊎ Outcome m s (Wait d) (Err (ClockEnd s.clock)) s

-- A run with nothing loaded answers Not loaded to every call, and stays as it is.
pub record NotLoadedStays (m : Meaning) : Type 0 where
  pub refused : (s : State) → s.loaded ≡ false → (c : Call) → Outcome m s c (Err NotLoaded) s
  pub only : {s s' : State} {c : Call} {r : Response} → s.loaded ≡ false → Outcome m s c r s' → (r ≡ Err NotLoaded) × (s' ≡ s)
  pub throughout : {cs : List Call} {rs : List Response} {s : State} → History m unloaded cs rs s → AllByRecursion (λ r. r ≡ Err NotLoaded) rs × (s ≡ unloaded)
