-- The command at an offset, by its byte. Assumes nothing.
use Rattle.std.proofs.Common.{◌≡◌, ℕ, ◌<◌, eqb, List, [], ◌∷◌, length, Some, None, refl, ap, ◌∙◌, arith}
use Rattle.std.specs.List.{AllByRecursion}
use Rattle.std.proofs.lemmas.Bool.{cond-false, ne_eqb}
use Rattle.orc.specs.Meaning.{Meaning}
use Rattle.formats.specs.declared.fault.Fault.{Fault}
use Rattle.formats.specs.declared.fault.Fault.TheVariants.{UnknownCommand}
use Rattle.formats.specs.Operands.{byte_at, first_broken}
use Rattle.files.specs.Judgement.{Scope, Begun, Command, commands, named, SoundCommand, FaultyCommand, unknown, broken}

-- a byte above 5 is no command
none_of : (b : ℕ) (cs : List Command) → AllByRecursion (λ c. c.byte < b) cs → named b cs ≡ None
none_of b [] below = refl
none_of b (c ∷ cs) below = let first = below.0 in cond-false (eqb b c.byte) (Some c) (named b cs) (ne_eqb b c.byte (λ e. omega arith)) ∙ none_of b cs below.1

module _ (m : Meaning) (n : ℕ) (bs : List ℕ) (scope : Scope) (at : ℕ) where
  pub none_named : (b : ℕ) → 5 < b → named b (commands m n bs scope at) ≡ None
  none_named b above = none_of b (commands m n bs scope at) (omega arith)

  module _ (within : at < length bs) where
    pub no_command : 5 < byte_at bs at → FaultyCommand m n bs scope at (UnknownCommand at)
    no_command above = unknown within (none_named (byte_at bs at) above)

    module _ (b : ℕ) (is : byte_at bs at ≡ b) (c : Command) (found : named b (commands m n bs scope at) ≡ Some c) where
      pub sound_there : {begun : Begun} → first_broken c.rules ≡ None → c.begun ≡ begun → SoundCommand m n bs scope at begun
      sound_there kept begins = record { within = within; command = c; there = ap (λ b. named b (commands m n bs scope at)) is ∙ found; kept = kept; begins = begins }

      pub broken_there : {f : Fault} → first_broken c.rules ≡ Some f → FaultyCommand m n bs scope at f
      broken_there fault = broken c within (ap (λ b. named b (commands m n bs scope at)) is ∙ found) fault
