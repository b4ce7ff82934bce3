-- A window from the two pairs that a host tells of it, and by its number. Assumes nothing.
use Rattle.std.specs.Prelude.{ℕ, Bool, false, List, Some, None, Option}
use Rattle.orc.specs.Meaning.{Window}
use Rattle.orc.specs.Expressions.{entry}

abbrev pub window_of : ℕ × ℕ → ℕ × ℕ → Window
window_of ticks values = record { earliest = ticks.0; latest = ticks.1; lowest = values.0; highest = values.1 }

-- a window that may be absent passes a test
abbrev pub passes : (Window → Bool) → Option Window → Bool
passes f None = false
passes f (Some w) = f w

-- the window of a number passes a test
abbrev pub passes_at : (Window → Bool) → List Window → ℕ → Bool
passes_at f ws i = passes f (entry ws i)
