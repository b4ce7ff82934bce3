-- Executions: what an expression does over time, transition by transition. Assumes nothing.
use Rattle.std.specs.Prelude.{ℕ, List, [], ◌∷◌}
use Rattle.orc.specs.Expressions.{Expression, World}
use Rattle.orc.specs.Variables.{substitute}
use Rattle.orc.specs.Calls.{Pending}
use Rattle.orc.specs.Steps.{Act, Leaf, Step, Pass}

-- An event has its tick: an act of the expression, or the arrival of a value for a variable from outside.
pub data Event : Type 0 where
  did : ℕ → Act → Event
  arrived : ℕ → ℕ → ℕ → Event

abbrev pub tick : Event → ℕ
tick (did t a) = t
tick (arrived t x v) = t

-- An event makes e into e': a transition of some leaf, with some ticket, or the substitution of what arrives.
pub data Moves (W : World) : Expression → Event → Expression → Type 0 where
  acts : {t k : ℕ} {e e' : Expression} {l : Leaf} {a : Act} {gone : List Pending} → Step W t k e l a gone e' → Moves W e (did t a) e'
  takes_in : {t x v : ℕ} {e : Expression} → Moves W e (arrived t x v) (substitute v x e)

-- A timed transition: time passes up to the event's tick, and then the event happens.
pub record Timed (W : World) (t : ℕ) (e : Expression) (m : Event) (e' : Expression) : Type 0 where
  pub passes : Pass W t (tick m) e
  pub moves : Moves W e m e'

-- Execution W t e ms n: begun at tick t, the expression e shows the events ms, and then no event up to tick n.
abbrev pub Execution : World → ℕ → Expression → List Event → ℕ → Type 0
Execution W t e [] n = Pass W t n e
Execution W t e (m ∷ ms) n = (e' : Expression) × Timed W t e m e' × Execution W (tick m) e' ms n
