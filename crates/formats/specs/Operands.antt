-- Operands: numbers of one, two or four bytes, the highest byte first, and the order in which they are judged. Assumes nothing.
use Rattle.std.specs.Prelude.{ℕ, ◌+◌, ◌*◌, ◌<◌, Bool, cond, List, [], ◌∷◌, length, Some, None, Option, nat_le, slice_index}
use Rattle.formats.specs.declared.fault.Fault.{Fault}
use Rattle.formats.specs.declared.fault.Fault.TheVariants.{CutShort}

abbrev pub byte_at : List ℕ → ℕ → ℕ
byte_at bs i = slice_index bs i

-- numbers that are bytes
abbrev pub Bytes : List ℕ → Type 0
Bytes bs = (i : ℕ) → byte_at bs i < 256

abbrev pub two_at : List ℕ → ℕ → ℕ
two_at bs i = byte_at bs i * 256 + byte_at bs (i + 1)

abbrev pub four_at : List ℕ → ℕ → ℕ
four_at bs i = byte_at bs i * 16777216 + byte_at bs (i + 1) * 65536 + byte_at bs (i + 2) * 256 + byte_at bs (i + 3)

-- a rule that an input has to keep, and the fault if it does not
pub record Rule : Type 0 where
  pub kept : Bool
  pub fault : Fault

-- the bytes up to an offset are there
abbrev pub reaches_to : List ℕ → ℕ → Rule
reaches_to bs n = record { kept = nat_le n (length bs); fault = CutShort (length bs) }

-- Rules are looked at in their order, and the first that is broken gives the fault.
abbrev pub first_broken : List Rule → Option Fault
first_broken [] = None
first_broken (r ∷ rs) = cond r.kept (first_broken rs) (Some r.fault)
