-- What a table of lengths tells of some bytes. Assumes nothing.
use Rattle.std.specs.Prelude.{◌≡◌, ℕ, ◌+◌, ◌<◌, ◌≤◌, true, false, List, length, slice_index}
use Rattle.formats.specs.Operands.{byte_at}
use Rattle.formats.specs.Widths.{width_of}
use Rattle.forms.specs.Shapes.{has_parts}

-- the number at an offset of a table; 0 tells nothing, and where there is none it is 0
abbrev pub length_at : List ℕ → ℕ → ℕ
length_at ts i = slice_index ts i

-- A command of w bytes at an offset and its two parts, whose lengths are told, come to n bytes.
pub record PartsTold (ts : List ℕ) (at w n : ℕ) : Type 0 where
  pub first : 0 < length_at ts (at + w)
  pub second : 0 < length_at ts (at + w + length_at ts (at + w))
  pub all : n ≡ w + length_at ts (at + w) + length_at ts (at + w + length_at ts (at + w))

-- The form at an offset has n bytes: as many as its command with the operands, and its parts.
pub record Tells (bs ts : List ℕ) (at n : ℕ) : Type 0 where
  pub of_a_form : byte_at bs at ≤ 6
  pub without_parts : has_parts (byte_at bs at) ≡ false → n ≡ width_of (byte_at bs at)
  pub with_parts : has_parts (byte_at bs at) ≡ true → PartsTold ts at (width_of (byte_at bs at)) n

-- A table tells this of each offset at which it has a number that does not pass the end.
abbrev pub Told : List ℕ → List ℕ → Type 0
Told bs ts = (at : ℕ) → 0 < length_at ts at → at + length_at ts at ≤ length bs → Tells bs ts at (length_at ts at)

-- the same of the offsets from one on
abbrev pub ToldFrom : ℕ → List ℕ → List ℕ → Type 0
ToldFrom from bs ts = (at : ℕ) → from ≤ at → 0 < length_at ts at → at + length_at ts at ≤ length bs → Tells bs ts at (length_at ts at)
