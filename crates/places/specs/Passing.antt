-- One pass over the bytes of a form, in which its due calls are met. Assumes nothing.
use Rattle.std.specs.Prelude.{◌≡◌, ℕ, ◌+◌, ◌-◌, ◌<◌, ◌≤◌, cond, List, length, Some, None, nat_lt}
use Rattle.orc.specs.Expressions.{size}
use Rattle.orc.specs.Calls.{due_count}
use Rattle.forms.specs.Reading.{read, expression_of}
use Rattle.places.specs.Places.{later, due_place, EndsAt}
use Rattle.places.specs.declared.due.Front.{Front}
use Rattle.places.specs.declared.due.Front.TheVariants.{Alone, Both, First}
use Rattle.places.specs.declared.due.Passed.{Passed}

-- what reading a form leaves behind it
abbrev pub rest_of : List ℕ → List ℕ
rest_of bs = (read (length bs) bs).rest

-- The bytes are read as an expression without parts: m calls are due, at its own beginning. Each takes a byte.
pub record DueHere (bs : List ℕ) (m : ℕ) (rest : List ℕ) : Type 0 where
  pub count : due_count (expression_of bs) ≡ m
  pub place : (n : ℕ) → due_place n (expression_of bs) ≡ cond (nat_lt n m) (Some 0) None
  pub behind : rest_of bs ≡ rest
  pub few : m + length rest ≤ length bs

-- They are read as an expression of two parts, which are read from some of these bytes on, and the calls of both are due,
pub record DueInBoth (bs parts : List ℕ) : Type 0 where
  pub shorter : length parts < length bs
  pub count : due_count (expression_of bs) ≡ due_count (expression_of parts) + due_count (expression_of (rest_of parts))
  pub place : (n : ℕ) → due_place n (expression_of bs)
      ≡ cond (nat_lt n (due_count (expression_of parts)))
      (later (length bs - length parts) (due_place n (expression_of parts)))
      (later (length bs - length parts + size (expression_of parts)) (due_place (n - due_count (expression_of parts)) (expression_of (rest_of parts))))
  pub behind : rest_of bs ≡ rest_of (rest_of parts)

-- or only those of the first.
pub record DueInFirst (bs parts : List ℕ) : Type 0 where
  pub shorter : length parts < length bs
  pub count : due_count (expression_of bs) ≡ due_count (expression_of parts)
  pub place : (n : ℕ) → due_place n (expression_of bs) ≡ later (length bs - length parts) (due_place n (expression_of parts))
  pub behind : rest_of bs ≡ rest_of (rest_of parts)

abbrev pub BeginsAs : List ℕ → Front → Type 0
BeginsAs bs (Alone passed) = DueHere bs passed.count passed.behind.now
BeginsAs bs (Both parts) = DueInBoth bs parts.now
BeginsAs bs (First parts) = DueInFirst bs parts.now

-- What has been passed leaves just what reading leaves. Its due calls have room in the bytes beside that, since each takes a byte.
pub record LeavesBehind (bs : List ℕ) (passed : Passed) : Type 0 where
  pub behind : passed.behind.now ≡ rest_of bs
  pub few : passed.count + length passed.behind.now ≤ length bs

-- The due call n begins where these last bytes do.
pub record BeginsThere (bs : List ℕ) (n : ℕ) (call : List ℕ) : Type 0 where
  pub last : length call ≤ length bs
  pub there : EndsAt bs n (length bs - length call)
