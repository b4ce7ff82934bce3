-- What it means that whatever can happen is made to happen. Assumes nothing.
use Rattle.std.specs.Prelude.{◌≡◌, ℕ, suc, ◌+◌, true, ◌⊎◌, List, Ok, Err}
use Rattle.orc.specs.Meaning.{Meaning}
use Rattle.orc.specs.Expressions.{Expression}
use Rattle.orc.specs.Calls.{Pending}
use Rattle.orc.specs.Steps.{Act, Leaf, Step, Pass}
use Rattle.runs.specs.declared.call.Call.{Call}
use Rattle.runs.specs.declared.refusal.Refusal.{Refusal}
use Rattle.runs.specs.declared.refusal.Refusal.TheVariants.{ClockEnd}
use Rattle.runs.specs.Refusals.{is_limit}
use Rattle.runs.specs.States.{State, world_of}
use Rattle.runs.specs.Outcomes.{Response, stepped, waited}
use Rattle.runs.specs.Moving.{call_of}

-- the call is refused by a limit, and the state stays
pub record Limited (s : State) (r : Response) (s' : State) : Type 0 where
  pub refusal : Refusal
  pub limit : is_limit refusal ≡ true
  pub refused : r ≡ Err refusal
  pub stays : s' ≡ s

-- In a loaded run, each transition of the standing expression whose leaf the call names, with the next ticket, is made: the
-- call is accepted, with its result; or the call is refused by a limit.
abbrev pub EveryTransitionIsMade : Meaning → State → Call → Response → State → Type 0
EveryTransitionIsMade m s c r s' =
    s.loaded ≡ true → (l : Leaf) (a : Act) (gone : List Pending) (e : Expression) → call_of l ≡ c
    → Step (world_of m s) s.clock (suc s.issued) s.expression l a gone e
    → ((r ≡ Ok tt) × (s' ≡ stepped m s c a gone e)) ⊎ Limited s r s'

-- In a loaded run, time that can pass is waited: the call is accepted, and the clock moves; or the clock's end is met.
abbrev pub EveryPassageIsWaited : Meaning → State → ℕ → Response → State → Type 0
EveryPassageIsWaited m s d r s' =
    s.loaded ≡ true → Pass (world_of m s) s.clock (s.clock + d) s.expression
    → ((r ≡ Ok tt) × (s' ≡ waited m s d)) ⊎ ((r ≡ Err (ClockEnd s.clock)) × (s' ≡ s))
