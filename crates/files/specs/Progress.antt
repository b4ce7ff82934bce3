-- How the check of a file goes on. Assumes nothing.
use Rattle.std.specs.Prelude.{◌≡◌, ℕ, List, Some, None, Ok, Err, Option, Result, MatchOption, MatchResult}
use Rattle.orc.specs.Meaning.{Meaning}
use Rattle.orc.specs.Expressions.{Expression, Definition}
use Rattle.orc.specs.Files.{File}
use Rattle.formats.specs.declared.fault.Fault.{Fault}
use Rattle.formats.specs.Operands.{Rule, first_broken}
use Rattle.files.specs.Judgement.{Outcome, Scope, alone, of_two, SoundCommand, FaultyCommand, FormOutcome, WholeOutcome, DefinitionOutcome, RestOutcome}
use Rattle.files.specs.Scopes.{bits}
use Rattle.files.specs.declared.scope.Scope.{Scope as Bound}

-- It goes on exactly if rules are kept, and else it has the fault of the first that is broken.
abbrev pub ByRules : {A : Type 0} → List Rule → Result A Fault → Type 0
ByRules rules r = MatchResult r (λ _. first_broken rules ≡ None) (λ f. first_broken rules ≡ Some f)

-- What the check says of a command with its operands, of a form, of one that ends with the bytes, and of a definition, is their
-- outcome. It does not keep the expression that was read.
module _ (m : Meaning) (n : ℕ) (bs : List ℕ) where
  abbrev pub CommandJudged : Scope → ℕ → Result (Option (Bound × Bound)) Fault → Type 0
  CommandJudged scope at r =
      MatchResult r
      (λ parts.
      MatchOption parts
      ((e : Expression) × SoundCommand m n bs scope at (alone e))
      (λ p. (make : Expression → Expression → Expression) × SoundCommand m n bs scope at (of_two (bits p.0.bound) (bits p.1.bound) make)))
      (λ f. FaultyCommand m n bs scope at f)

  abbrev pub FormJudged : Scope → ℕ → Result ℕ Fault → Type 0
  FormJudged scope at r = MatchResult r (λ end. (e : Expression) × FormOutcome m n bs scope at (Ok (e, end))) (λ f. FormOutcome m n bs scope at (Err f))

  abbrev pub WholeJudged : {A : Type 0} → Scope → ℕ → Result A Fault → Type 0
  WholeJudged scope at r = MatchResult r (λ _. (e : Expression) × WholeOutcome m n bs scope at (Ok e)) (λ f. WholeOutcome m n bs scope at (Err f))

  abbrev pub DefinitionJudged : {A : Type 0} → ℕ → Result A Fault → Type 0
  DefinitionJudged at r = MatchResult r (λ _. (d : Definition) × DefinitionOutcome m n bs at (Ok d)) (λ f. DefinitionOutcome m n bs at (Err f))

-- The check has come to an offset, and k of n definitions are yet to come: what stands from there on decides whether the
-- file is accepted, and with which fault it is not.
pub record EndsIn (m : Meaning) (n : ℕ) (bs : List ℕ) (k at : ℕ) : Type 0 where
  pub decides : (o : Outcome File) → RestOutcome m n bs k at o → MatchResult o (λ _. (file : File) × RestOutcome m n bs n 1 (Ok file)) (λ f. RestOutcome m n bs n 1 (Err f))
