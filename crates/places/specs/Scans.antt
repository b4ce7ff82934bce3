-- The pending calls of an expression with their places, and how a scan of its bytes meets them. Assumes nothing.
use Rattle.std.specs.Prelude.{ℕ, zero, suc, ◌+◌, Bool, true, false, cond, ◌&&◌, List, [], ◌∷◌, ◌++◌, map, length, Some, None, Option, ◌==◌, nat_le, nat_lt}
use Rattle.orc.specs.Expressions.{Expression, stop, site_call, definition_call, parallel, sequential, pruning, pending, size}
use Rattle.orc.specs.Calls.{Pending}
use Rattle.formats.specs.Operands.{byte_at}
use Rattle.formats.specs.Widths.{width_of}
use Rattle.forms.specs.Pendings.{call_at}

-- a pending call, and the offset of its command
pub record Placed : Type 0 where
  pub place : ℕ
  pub call : Pending

-- all pending calls of an expression whose bytes begin at an offset, from the left
unfoldable pub placed_calls : ℕ → Expression → List Placed
placed_calls at stop = []
placed_calls at (site_call s p) = []
placed_calls at (definition_call i p) = []
placed_calls at (parallel f g) = placed_calls (at + 1) f ++ placed_calls (at + 1 + size f) g
placed_calls at (sequential x f g) = placed_calls (at + 2) f ++ placed_calls (at + 2 + size f) g
placed_calls at (pruning x f g) = placed_calls (at + 2) f ++ placed_calls (at + 2 + size f) g
placed_calls at (pending k s v c) = record { place = at; call = record { ticket = k; site = s; argument = v; since = c } } ∷ []

-- the place of the first with a ticket
abbrev pub first_place : ℕ → List Placed → Option ℕ
first_place j [] = None
first_place j (p ∷ ps) = cond (j == p.call.ticket) (Some p.place) (first_place j ps)

-- The offset of the first pending call with a ticket, in the bytes of the expression.
abbrev pub ticket_place : ℕ → Expression → Option ℕ
ticket_place j e = first_place j (placed_calls 0 e)

-- The offset behind the command at an offset, by the table of widths, if the whole command is there.
abbrev pub behind : List ℕ → ℕ → Option ℕ
behind bs at = cond (nat_lt 0 (width_of (byte_at bs at)) && nat_le (at + width_of (byte_at bs at)) (length bs)) (Some (at + width_of (byte_at bs at))) None

-- one command of a scan: none, a pending call or another, and what follows behind it
abbrev pub met : Option ℕ → Bool → Placed → (ℕ → List Placed) → List Placed
met None is p rest = []
met (Some next) true p rest = p ∷ rest next
met (Some next) false p rest = rest next

-- The pending calls that a scan meets from an offset on; the number bounds how many commands it takes.
unfoldable pub scanned : ℕ → List ℕ → ℕ → List Placed
scanned zero bs at = []
scanned (suc k) bs at = met (behind bs at) (byte_at bs at == 6) (record { place = at; call = call_at bs at }) (λ next. scanned k bs next)

-- A list of n bytes has no more than n commands.
abbrev pub placed_from : List ℕ → ℕ → List Placed
placed_from bs at = scanned (length bs) bs at

abbrev pub pendings_from : List ℕ → ℕ → List Pending
pendings_from bs at = map (λ p. p.call) (placed_from bs at)
