-- What stands in a stretch of a form's bytes, and what replaces it. Assumes nothing.
use Rattle.std.specs.Prelude.{◌≡◌, ℕ, ◌+◌, List}
use Rattle.std.specs.List.{between}
use Rattle.places.specs.Splices.{spliced}
use Rattle.steps.specs.declared.section.Section.{Section}

abbrev pub inside : Section → List ℕ
inside s = between s.stretch.at s.stretch.end s.form.bytes.now

-- the form's bytes with others in place of the stretch
abbrev pub replaced : Section → List ℕ → List ℕ
replaced s new = spliced s.form.bytes.now s.stretch.at s.stretch.end new

-- the n bytes of bs from a place on
pub record StandsAt (bs : List ℕ) (place n : ℕ) (s : Section) : Type 0 where
  pub form : s.form.bytes.now ≡ bs
  pub at : s.stretch.at ≡ place
  pub end : s.stretch.end ≡ place + n
