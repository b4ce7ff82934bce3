-- Sets of variables, as the bits of a number: variable x is bit x. Assumes nothing.
use Rattle.std.specs.Prelude.{◌≡◌, ℕ, ◌/◌, ◌%◌, ◌^◌, ◌<◌, Bool, ◌==◌}
use Rattle.orc.specs.Expressions.{Expression}
use Rattle.orc.specs.Variables.{free}

abbrev pub holds : ℕ → ℕ → Bool
holds n x = n / 2 ^ x % 2 == 1

-- of the variables below 32 the set holds those that stand free in the expression
abbrev pub FreeIn : ℕ → Expression → Type 0
FreeIn n e = (x : ℕ) → x < 32 → holds n x ≡ free x e
