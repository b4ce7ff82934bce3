-- The bytes of the marks of parameters. Assumes nothing.
use Rattle.std.specs.Prelude.{◌≡◌, ℕ, ◌<◌, Result, MatchResult}
use Rattle.forms.specs.declared.mark.Mark.{Mark}
use Rattle.forms.specs.declared.mark.Mark.TheVariants.{Value, Variable}
use Rattle.forms.specs.declared.mark.NoMark.{NoMark}

abbrev pub mark_byte : Mark → ℕ
mark_byte Value = 0
mark_byte Variable = 1

-- the result is the mark with this byte, or an error with a byte that no mark has
abbrev pub DecodesMark : ℕ → Result Mark NoMark → Type 0
DecodesMark byte r = MatchResult r (λ m. mark_byte m ≡ byte) (λ e. (e.0 ≡ byte) × (1 < byte))
