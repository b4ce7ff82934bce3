-- What the pending calls of the code stand for, and how they are read. Assumes nothing.
use Rattle.std.specs.Prelude.{◌≡◌, ℕ, ◌+◌, ◌≤◌, List, length}
use Rattle.orc.specs.Calls as calls
use Rattle.formats.specs.Operands.{byte_at, two_at, four_at}
use Rattle.forms.specs.declared.pending.Pending.{Pending}

abbrev pub pending_of : Pending → calls.Pending
pending_of p = record { ticket = p.ticket; site = p.site; argument = p.value; since = p.clock }

-- at an offset stands the command of a pending call with all of its operands
pub record CallStands (bs : List ℕ) (at : ℕ) : Type 0 where
  pub command : byte_at bs at ≡ 6
  pub whole : at + 12 ≤ length bs

-- the pending call whose command stands at an offset
abbrev pub call_at : List ℕ → ℕ → calls.Pending
call_at bs at = record { ticket = four_at bs (at + 1); site = byte_at bs (at + 5); argument = two_at bs (at + 6); since = four_at bs (at + 8) }
