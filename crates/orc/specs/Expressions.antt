-- The expressions of Orc and the bytes that they are written in. Assumes nothing.
use Rattle.std.specs.Prelude.{ℕ, zero, suc, ◌/◌, ◌%◌, List, [], ◌∷◌, ◌++◌, length, Some, None, Option}
use Rattle.orc.specs.Meaning.{Meaning}

-- what a call is made with: a value, or a variable whose value has yet to arrive
pub data Parameter : Type 0 where
  value : ℕ → Parameter
  variable : ℕ → Parameter

-- stop does nothing. A parallel runs both parts. A sequential with x runs its left part, and for each value that this
-- publishes a copy of its right part with the value for x. A pruning with x runs both parts, and the first value that its
-- right part publishes is put in for x in the left, while the right ends. A pending call has been made and waits for its
-- reply: its ticket, its site, its value, and the clock of the call.
pub data Expression : Type 0 where
  stop : Expression
  site_call : ℕ → Parameter → Expression
  definition_call : ℕ → Parameter → Expression
  parallel : Expression → Expression → Expression
  sequential : ℕ → Expression → Expression → Expression
  pruning : ℕ → Expression → Expression → Expression
  pending : ℕ → ℕ → ℕ → ℕ → Expression

-- a definition has one formal variable, which a call of it replaces by a value
pub record Definition : Type 0 where
  pub formal : ℕ
  pub body : Expression

-- what an expression runs in: what sites reply, and the definitions by number
pub record World : Type 0 where
  pub meaning : Meaning
  pub definitions : List Definition

-- the element at a number, if there is one
abbrev pub entry : {X : Type 0} → List X → ℕ → Option X
entry [] i = None
entry (x ∷ xs) zero = Some x
entry (x ∷ xs) (suc i) = entry xs i

-- numbers of two and of four bytes, the highest byte first
abbrev pub two_bytes : ℕ → List ℕ
two_bytes n = n / 256 ∷ n % 256 ∷ []

abbrev pub four_bytes : ℕ → List ℕ
four_bytes n = n / 16777216 ∷ (n / 65536) % 256 ∷ (n / 256) % 256 ∷ n % 256 ∷ []

-- a parameter is a mark, 0 for a value and 1 for a variable, and then a number of two bytes
abbrev pub mark : Parameter → ℕ
mark (value v) = 0
mark (variable x) = 1

abbrev pub number : Parameter → ℕ
number (value v) = v
number (variable x) = x

abbrev pub parameter_bytes : Parameter → List ℕ
parameter_bytes p = mark p ∷ two_bytes (number p)

-- The form of an expression: a command byte, its operands, then the forms of its parts.
unfoldable pub bytes : Expression → List ℕ
bytes stop = 0 ∷ []
bytes (site_call s p) = 1 ∷ s ∷ parameter_bytes p
bytes (definition_call i p) = 2 ∷ i ∷ parameter_bytes p
bytes (parallel f g) = 3 ∷ (bytes f ++ bytes g)
bytes (sequential x f g) = 4 ∷ x ∷ (bytes f ++ bytes g)
bytes (pruning x f g) = 5 ∷ x ∷ (bytes f ++ bytes g)
bytes (pending k s v c) = 6 ∷ (four_bytes k ++ (s ∷ (two_bytes v ++ four_bytes c)))

abbrev pub size : Expression → ℕ
size e = length (bytes e)
