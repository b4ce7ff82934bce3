-- The parameter file: what it holds, its bytes, and when it is well-formed over what the sites of a host can reply.
-- Assumes nothing.
use Rattle.std.specs.Prelude.{◌≡◌, ℕ, ◌≤◌, Bool, true, false, ◌&&◌, List, [], ◌∷◌, ◌++◌, length, nat_le, nat_lt}
use Rattle.std.specs.List.{AllByRecursion}
use Rattle.orc.specs.Meaning.{Meaning, is_known}
use Rattle.orc.specs.Expressions.{Parameter, value, variable, Expression, stop, site_call, definition_call, parallel, sequential, pruning, pending, Definition, World, two_bytes, bytes, size}
use Rattle.orc.specs.Sound.{Closed, ClosedButFormal}

pub record File : Type 0 where
  pub definitions : List Definition
  pub goal : Expression

-- what the goal runs in
abbrev pub world : Meaning → File → World
world m file = record { meaning = m; definitions = file.definitions }

-- A file is a byte that counts the definitions, the definitions, and the goal's form. A definition is its formal variable,
-- the length of its form in two bytes, and the form.
abbrev pub definition_bytes : Definition → List ℕ
definition_bytes d = d.formal ∷ (two_bytes (size d.body) ++ bytes d.body)

abbrev pub definitions_bytes : List Definition → List ℕ
definitions_bytes [] = []
definitions_bytes (d ∷ ds) = definition_bytes d ++ definitions_bytes ds

unfoldable pub file_bytes : File → List ℕ
file_bytes file = length file.definitions ∷ (definitions_bytes file.definitions ++ bytes file.goal)

-- Variables and sites are 0 to 31, and values 0 to 65,535.
abbrev pub proper_parameter : Parameter → Bool
proper_parameter (value v) = nat_le v 65535
proper_parameter (variable x) = nat_le x 31

-- An expression as it may stand in a file with n definitions: its operands are in range, its sites known, its definition
-- numbers below n, and no call is pending.
unfoldable pub proper : Meaning → ℕ → Expression → Bool
proper m n stop = true
proper m n (site_call s p) = nat_le s 31 && (is_known (m s) && proper_parameter p)
proper m n (definition_call i p) = nat_lt i n && proper_parameter p
proper m n (parallel f g) = proper m n f && proper m n g
proper m n (sequential x f g) = nat_le x 31 && (proper m n f && proper m n g)
proper m n (pruning x f g) = nat_le x 31 && (proper m n f && proper m n g)
proper m n (pending k s v c) = false

pub record WellFormedDefinition (m : Meaning) (n : ℕ) (d : Definition) : Type 0 where
  pub formal_fits : d.formal ≤ 31
  pub body_proper : proper m n d.body ≡ true
  pub closed_but_formal : ClosedButFormal d

-- At most 16 definitions and 4,096 bytes; only its formal is free in a definition, and nothing in the goal.
pub record WellFormed (m : Meaning) (file : File) : Type 0 where
  pub few : length file.definitions ≤ 16
  pub definitions_well_formed : AllByRecursion (WellFormedDefinition m (length file.definitions)) file.definitions
  pub goal_proper : proper m (length file.definitions) file.goal ≡ true
  pub goal_closed : Closed file.goal
  pub short : length (file_bytes file) ≤ 4096
