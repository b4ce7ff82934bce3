-- Where a form ends, by its commands and their widths alone. Assumes nothing.
use Rattle.std.specs.Prelude.{◌≡◌, ℕ, ◌+◌, ◌≤◌, Bool, true, false, ◌&&◌, List, length, nat_le}
use Rattle.formats.specs.Operands.{byte_at}
use Rattle.formats.specs.Widths.{width_of}

-- the commands of a form are 0 to 6, and those with two parts are 3 to 5: parallel, sequential and pruning
abbrev pub has_parts : ℕ → Bool
has_parts b = nat_le 3 b && nat_le b 5

-- at an offset stands a command of a form with all of its operands
pub record WholeCommand (bs : List ℕ) (at : ℕ) : Type 0 where
  pub of_a_form : byte_at bs at ≤ 6
  pub whole : at + width_of (byte_at bs at) ≤ length bs

-- The bytes from an offset up to another have the shape of a form, by a rule that says where its commands may stand: a command
-- with its operands, and then its parts.
pub data FormBy (Rule : ℕ → Type 0) (bs : List ℕ) : ℕ → ℕ → Type 0 where
  without_parts : {at end : ℕ} → Rule at → has_parts (byte_at bs at) ≡ false → end ≡ at + width_of (byte_at bs at) → FormBy Rule bs at end
  with_parts : {at middle end : ℕ} → Rule at → has_parts (byte_at bs at) ≡ true → FormBy Rule bs (at + width_of (byte_at bs at)) middle → FormBy Rule bs middle end → FormBy Rule bs at end

-- any whole command may stand anywhere
abbrev pub FormAt : List ℕ → ℕ → ℕ → Type 0
FormAt bs = FormBy (WholeCommand bs) bs

-- a command with a parameter is a site call or a definition call
abbrev pub has_parameter : ℕ → Bool
has_parameter b = nat_le 1 b && nat_le b 2

-- a command as an expression has it: its parameter is marked as a value or as a variable
pub record ExactCommand (bs : List ℕ) (at : ℕ) : Type 0 where
  pub command : WholeCommand bs at
  pub marked : has_parameter (byte_at bs at) ≡ true → byte_at bs (at + 2) ≤ 1
