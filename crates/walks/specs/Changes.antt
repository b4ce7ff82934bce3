-- What becomes of a form when a value is put in for a variable, or when nothing is. Assumes nothing.
use Rattle.std.specs.Prelude.{ℕ, cond, Some, None, Option, ◌==◌}
use Rattle.orc.specs.Expressions.{Parameter, Expression}
use Rattle.orc.specs.Variables.{replaced, substitute}
use Rattle.walks.specs.declared.change.Change.{Change}

abbrev pub changed_parameter : Option Change → Parameter → Parameter
changed_parameter None p = p
changed_parameter (Some c) p = replaced c.value c.variable p

abbrev pub changed : Option Change → Expression → Expression
changed None e = e
changed (Some c) e = substitute c.value c.variable e

-- the change in a part in which y is bound: none, if the value is for y
abbrev pub unless_bound : Option Change → ℕ → Option Change
unless_bound None y = None
unless_bound (Some c) y = cond (c.variable == y) None (Some c)
