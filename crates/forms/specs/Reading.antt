-- Reading a form. Any list of numbers is read as an expression: where the numbers are no form, what cannot be read is
-- stop, and nothing is left behind it. Assumes nothing.
use Rattle.std.specs.Prelude.{ℕ, zero, suc, ◌+◌, cond, List, [], length, drop, ◌==◌, nat_le}
use Rattle.orc.specs.Expressions.{Parameter, value, variable, Expression, stop, site_call, definition_call, parallel, sequential, pruning, pending}
use Rattle.formats.specs.Operands.{byte_at, two_at, four_at}
use Rattle.formats.specs.Widths.{width_of}

-- the parameter at an offset: a mark, 0 for a value and else a variable, and a number of two bytes
abbrev pub parameter_at : List ℕ → ℕ → Parameter
parameter_at bs i = cond (byte_at bs i == 0) (value (two_at bs (i + 1))) (variable (two_at bs (i + 1)))

-- what a command with its operands begins: an expression without parts, or one that is made of two
pub data Opening : Type 0 where
  alone : Expression → Opening
  of_two : (Expression → Expression → Expression) → Opening
  no_form : Opening

-- by its byte, the operands standing behind it
abbrev pub opened : ℕ → List ℕ → Opening
opened b bs =
    cond (b == 0) (alone stop)
    (cond (b == 1) (alone (site_call (byte_at bs 1) (parameter_at bs 2)))
    (cond (b == 2) (alone (definition_call (byte_at bs 1) (parameter_at bs 2)))
    (cond (b == 3) (of_two parallel)
    (cond (b == 4) (of_two (sequential (byte_at bs 1)))
    (cond (b == 5) (of_two (pruning (byte_at bs 1)))
    (cond (b == 6) (alone (pending (four_at bs 1) (byte_at bs 5) (two_at bs 6) (four_at bs 8)))
    no_form))))))

-- the command at the front, if it is whole
abbrev pub opening : List ℕ → Opening
opening bs = cond (nat_le (width_of (byte_at bs 0)) (length bs)) (opened (byte_at bs 0) bs) no_form

-- an expression that was read, and the bytes behind it
pub record Read : Type 0 where
  pub expression : Expression
  pub rest : List ℕ

-- what stands behind the command, and how a part is read from it
abbrev pub continued : Opening → List ℕ → (List ℕ → Read) → Read
continued (alone e) bs part = record { expression = e; rest = bs }
continued (of_two make) bs part =
    let left = part bs in
    let right = part left.rest in
    record { expression = make left.expression right.expression; rest = right.rest }
continued no_form bs part = record { expression = stop; rest = [] }

-- the first form of a list; the number bounds how deep its parts are nested
unfoldable pub read : ℕ → List ℕ → Read
read zero bs = record { expression = stop; rest = [] }
read (suc k) bs = continued (opening bs) (drop (width_of (byte_at bs 0)) bs) (λ l. read k l)

-- A list of n bytes has no more than n forms nested.
unfoldable pub expression_of : List ℕ → Expression
expression_of bs = (read (length bs) bs).expression
