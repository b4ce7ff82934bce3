-- The variables that are bound, as the bits of a number: variable x is bit x. Assumes nothing.
use Rattle.std.specs.Prelude.{ℕ, ◌/◌, ◌%◌, ◌^◌, ◌==◌}
use Rattle.files.specs.Judgement.{Scope}

abbrev pub bits : ℕ → Scope
bits n x = n / 2 ^ x % 2 == 1
