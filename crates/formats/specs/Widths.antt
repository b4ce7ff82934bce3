-- The width of each byte as a command with its operands, in both files. Assumes nothing.
use Rattle.std.specs.Prelude.{ℕ, cond, List, [], ◌∷◌, ◌==◌}

-- a command byte and its width
pub record Width : Type 0 where
  pub command : ℕ
  pub bytes : ℕ

abbrev wide : ℕ → ℕ → Width
wide c n = record { command = c; bytes = n }

-- stop, site call, definition call, parallel, sequential, pruning, pending call; row and window of a sheet
abbrev pub commands : List Width
commands = wide 0 1 ∷ wide 1 5 ∷ wide 2 5 ∷ wide 3 1 ∷ wide 4 2 ∷ wide 5 2 ∷ wide 6 12 ∷ wide 16 7 ∷ wide 17 13 ∷ []

-- the width that a list of commands gives a byte, 0 if it is none of them
abbrev pub listed : List Width → ℕ → ℕ
listed [] b = 0
listed (w ∷ ws) b = cond (b == w.command) w.bytes (listed ws b)

abbrev pub width_of : ℕ → ℕ
width_of b = listed commands b
