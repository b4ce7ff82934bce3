-- A reply taken in the bytes of a form. Assumes nothing.
use Rattle.std.specs.Prelude.{◌≡◌, ℕ, ◌+◌, ◌≤◌, List, [], ◌∷◌, ◌++◌, length, Some, None, Option}
use Rattle.std.specs.List.{between}
use Rattle.orc.specs.Expressions.{Expression, sequential, pruning, bytes}
use Rattle.orc.specs.Variables.{substitute}
use Rattle.orc.specs.Steps.{Act, inner, out}
use Rattle.forms.specs.Reading.{expression_of}
use Rattle.forms.specs.Heads.{IsForm}
use Rattle.places.specs.Splices.{spliced}
use Rattle.places.specs.declared.stretch.Stretch.{Stretch}

-- the expression that a stretch of the bytes is read as
abbrev pub read_in : List ℕ → Stretch → Expression
read_in bs s = expression_of (between s.at s.end bs)

-- a stretch of the bytes, with the pending call at the offset p inside, which has 12 bytes
pub record HoldsCall (bs : List ℕ) (p : ℕ) (s : Stretch) : Type 0 where
  pub before : s.at ≤ p
  pub behind : p + 12 ≤ s.end
  pub within : s.end ≤ length bs

-- a stretch of the bytes that is the form of an expression
pub record FormOf (bs : List ℕ) (s : Stretch) (e : Expression) : Type 0 where
  pub ordered : s.at ≤ s.end
  pub within : s.end ≤ length bs
  pub form : IsForm (between s.at s.end bs)
  pub is : read_in bs s ≡ e

-- Replied bs p w frame a q bs': the pending call at the offset p of bs, to which the frame is the nearest, gets the reply w.
-- That shows the act a and makes bs into bs'. The stretch q of bs, if there is one, ends with it.
pub data Replied (bs : List ℕ) (p w : ℕ) : Option Stretch → Act → Option Stretch → List ℕ → Type 0 where
  -- no frame takes the reply: the call becomes stop, and the value is published
  publishes : p + 12 ≤ length bs → Replied bs p w None (out w) None (spliced bs p (p + 12) (0 ∷ []))
  -- a sequential takes it: a copy of its right part begins beside it, with the value for its variable, and the call becomes stop
  spawns : (s : Stretch) {x : ℕ} {f g : Expression} → HoldsCall bs p s → read_in bs s ≡ sequential x f g → Replied bs p w (Some s) inner None (spliced bs s.at s.end (3 ∷ (between s.at p bs ++ (0 ∷ (between (p + 12) s.end bs ++ bytes (substitute w x g))))))
  -- a pruning takes it: it becomes its left part, with the value for its variable, and its right part, the stretch q at its end, ends
  binds : (s q : Stretch) {x : ℕ} {f g : Expression} → HoldsCall bs p s → read_in bs s ≡ pruning x f g → q.end ≡ s.end → FormOf bs q g → Replied bs p w (Some s) inner (Some q) (spliced bs s.at s.end (bytes (substitute w x f)))
