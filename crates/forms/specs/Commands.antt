-- The bytes of the commands of a form. Assumes nothing.
use Rattle.std.specs.Prelude.{◌≡◌, ℕ, ◌<◌, Result, MatchResult}
use Rattle.forms.specs.declared.command.Command.{Command}
use Rattle.forms.specs.declared.command.Command.TheVariants.{Stop, SiteCall, DefinitionCall, Parallel, Sequential, Pruning, Pending}
use Rattle.forms.specs.declared.command.NoCommand.{NoCommand}

abbrev pub byte_of : Command → ℕ
byte_of Stop = 0
byte_of SiteCall = 1
byte_of DefinitionCall = 2
byte_of Parallel = 3
byte_of Sequential = 4
byte_of Pruning = 5
byte_of Pending = 6

-- the result is the command with this byte, or an error with a byte that no command has
abbrev pub Decodes : ℕ → Result Command NoCommand → Type 0
Decodes byte r = MatchResult r (λ c. byte_of c ≡ byte) (λ e. (e.0 ≡ byte) × (6 < byte))
