-- The bytes that the commands of a sheet begin with. Assumes nothing.
use Rattle.std.specs.Prelude.{◌≡◌, ◌≢◌, ℕ, Result, MatchResult}
use Rattle.sheets.specs.declared.command.Command.{Command}
use Rattle.sheets.specs.declared.command.Command.TheVariants.{Row, Window}
use Rattle.sheets.specs.declared.command.NoCommand.{NoCommand}

abbrev pub byte_of : Command → ℕ
byte_of Row = 16
byte_of Window = 17

-- the result is the command that begins with this byte, or an error with a byte that begins none
abbrev pub Decodes : ℕ → Result Command NoCommand → Type 0
Decodes byte r = MatchResult r (λ command. byte_of command ≡ byte) (λ e. (e.0 ≡ byte) × (byte ≢ 16) × (byte ≢ 17))
