-- A due call made in the bytes of a form. Assumes nothing.
use Rattle.std.specs.Prelude.{◌≡◌, ℕ, ◌+◌, List, [], drop}
use Rattle.orc.specs.Meaning.{Meaning}
use Rattle.orc.specs.Expressions.{Expression, Definition, bytes}
use Rattle.orc.specs.Steps.{Act, due, Step}
use Rattle.forms.specs.Reading.{expression_of}
use Rattle.places.specs.Splices.{spliced, IsDue}

-- The due call at the offset p is made by itself, at tick t and with ticket k if it calls a site, whatever sites reply; and
-- what it becomes is put in its place, in 5 bytes.
pub record Made (ds : List Definition) (t k : ℕ) (bs : List ℕ) (p : ℕ) (a : Act) (bs' : List ℕ) : Type 0 where
  pub is_due : IsDue (expression_of (drop p bs))
  pub result : Expression
  pub step : (m : Meaning) → Step (record { meaning = m; definitions = ds }) t k (expression_of (drop p bs)) (due 0) a [] result
  pub replaced : bs' ≡ spliced bs p (p + 5) (bytes result)
