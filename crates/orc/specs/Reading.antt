-- That bytes are read in one way only. Assumes nothing.
use Rattle.std.specs.Prelude.{◌≡◌, ℕ, List, ◌++◌}
use Rattle.orc.specs.Expressions.{Expression, bytes}

-- Two forms that begin the same bytes are one: their expressions are equal, and so is what stands behind them.
abbrev pub UniqueReading : Type 0
UniqueReading = (e e' : Expression) (r r' : List ℕ) → bytes e ++ r ≡ bytes e' ++ r' → (e ≡ e') × (r ≡ r')
