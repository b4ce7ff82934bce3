-- From the bytes of a file to its definitions and its goal. Any bytes are read so; those that are missing are read as 0.
-- Assumes nothing.
use Rattle.std.specs.Prelude.{ℕ, zero, suc, List, [], ◌∷◌, take, drop}
use Rattle.orc.specs.Expressions.{Definition}
use Rattle.orc.specs.Files.{File}
use Rattle.formats.specs.Operands.{byte_at, two_at}
use Rattle.forms.specs.Reading.{expression_of}

-- the form of the definition at the front of a list, the definition, and what stands behind it
abbrev pub body_bytes : List ℕ → List ℕ
body_bytes l = take (two_at l 1) (drop 3 l)

abbrev pub first_definition : List ℕ → Definition
first_definition l = record { formal = byte_at l 0; body = expression_of (body_bytes l) }

abbrev pub behind_definition : List ℕ → List ℕ
behind_definition l = drop (two_at l 1) (drop 3 l)

-- n definitions in a row, and what stands behind them
unfoldable pub definitions_of : ℕ → List ℕ → List Definition
definitions_of zero l = []
definitions_of (suc n) l = first_definition l ∷ definitions_of n (behind_definition l)

unfoldable pub behind_definitions : ℕ → List ℕ → List ℕ
behind_definitions zero l = l
behind_definitions (suc n) l = behind_definitions n (behind_definition l)

-- the bytes of the goal's form
abbrev pub goal_bytes : List ℕ → List ℕ
goal_bytes bs = behind_definitions (byte_at bs 0) (drop 1 bs)

unfoldable pub file_of : List ℕ → File
file_of bs = record { definitions = definitions_of (byte_at bs 0) (drop 1 bs); goal = expression_of (goal_bytes bs) }
