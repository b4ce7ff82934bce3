-- Where the calls of an expression stand in its bytes. Assumes nothing.
use Rattle.std.specs.Prelude.{◌≡◌, ℕ, ◌+◌, ◌-◌, ◌<◌, ◌≤◌, cond, List, length, Some, None, Option, nat_lt}
use Rattle.orc.specs.Expressions.{Parameter, Expression, stop, site_call, definition_call, parallel, sequential, pruning, pending, size}
use Rattle.orc.specs.Calls.{ready, due_count}
use Rattle.forms.specs.Reading.{expression_of}

-- a place, by so many bytes further on
abbrev pub later : ℕ → Option ℕ → Option ℕ
later n None = None
later n (Some p) = Some (n + p)

-- where the call with a parameter is the due call n: at its own beginning, or not at all
abbrev pub due_here : ℕ → Parameter → Option ℕ
due_here n p = cond (nat_lt n (ready p)) (Some 0) None

-- The offset of the due call n, in the bytes of the expression.
unfoldable pub due_place : ℕ → Expression → Option ℕ
due_place n stop = None
due_place n (site_call s p) = due_here n p
due_place n (definition_call i p) = due_here n p
due_place n (parallel f g) = cond (nat_lt n (due_count f)) (later 1 (due_place n f)) (later (1 + size f) (due_place (n - due_count f) g))
due_place n (sequential x f g) = later 2 (due_place n f)
due_place n (pruning x f g) = cond (nat_lt n (due_count f)) (later 2 (due_place n f)) (later (2 + size f) (due_place (n - due_count f) g))
due_place n (pending k s v c) = None

-- A search for the due call n ends at the offset p,
pub record EndsAt (bs : List ℕ) (n p : ℕ) : Type 0 where
  pub due : n < due_count (expression_of bs)
  pub within : p < length bs
  pub place : due_place n (expression_of bs) ≡ Some p

-- or has passed all due calls, m in number.
pub record PassesAll (bs : List ℕ) (n m : ℕ) : Type 0 where
  pub all : m ≡ due_count (expression_of bs)
  pub too_few : m ≤ n
  pub short : m ≤ length bs
  pub nowhere : due_place n (expression_of bs) ≡ None
