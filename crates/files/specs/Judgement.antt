-- How a parameter file is judged: its length first, and then its bytes in order, to the first fault. An operand is judged
-- once its last byte is there; the place of its fault is its first byte. Assumes nothing.
use Rattle.std.specs.Prelude.{◌≡◌, ℕ, suc, ◌+◌, ◌<◌, ◌≤◌, Bool, false, cond, ◌||◌, List, [], ◌∷◌, length, take, Some, None, Ok, Err, Option, Result, ◌==◌, nat_eq, nat_le, nat_lt}
use Rattle.orc.specs.Meaning.{Meaning, is_known}
use Rattle.orc.specs.Expressions.{Expression, stop, site_call, definition_call, parallel, sequential, pruning, Definition}
use Rattle.orc.specs.Files.{File}
use Rattle.formats.specs.declared.fault.Fault.{Fault}
use Rattle.formats.specs.declared.fault.Fault.TheVariants.{CutShort, UnknownCommand, OperandBeyondRange, NoSuchDefinition, SiteUnknown, FreeVariable, TooLong, TrailingBytes}
use Rattle.formats.specs.Operands.{byte_at, two_at, Rule, reaches_to, first_broken}
use Rattle.formats.specs.Widths.{width_of}
use Rattle.forms.specs.Reading.{parameter_at}

-- what was read, or the first fault
abbrev pub Outcome : Type 0 → Type 0
Outcome X = Result X Fault

-- which variables are bound
abbrev pub Scope : Type 0
Scope = ℕ → Bool

abbrev pub nothing_bound : Scope
nothing_bound y = false

-- the same, and x too
abbrev pub binding : ℕ → Scope → Scope
binding x scope y = y == x || scope y

-- The bytes are judged up to their end: those of a definition's form end with the definition, those of the goal with the
-- file. The place of a cut is that end.

-- a variable's range, and the range of a site, is 0 to 31
abbrev pub in_range : ℕ → ℕ → Rule
in_range x place = record { kept = nat_le x 31; fault = OperandBeyondRange place }

-- a parameter: its mark, and then its number, any value or a variable that is bound
abbrev pub parameter_rules : List ℕ → Scope → ℕ → List Rule
parameter_rules bs scope at =
    let is_value = nat_eq (byte_at bs at) 0 in
    let number = two_at bs (at + 1) in
    reaches_to bs (at + 1)
    ∷ record { kept = nat_le (byte_at bs at) 1; fault = OperandBeyondRange at }
    ∷ reaches_to bs (at + 3)
    ∷ record { kept = is_value || nat_le number 31; fault = OperandBeyondRange (at + 1) }
    ∷ record { kept = is_value || scope number; fault = FreeVariable (at + 1) }
    ∷ []

-- the operands of a site call, of a definition call, and of a command that binds a variable
abbrev pub site_call_rules : Meaning → List ℕ → Scope → ℕ → List Rule
site_call_rules m bs scope at =
    reaches_to bs (at + 2)
    ∷ in_range (byte_at bs (at + 1)) (at + 1)
    ∷ record { kept = is_known (m (byte_at bs (at + 1))); fault = SiteUnknown (at + 1) }
    ∷ parameter_rules bs scope (at + 2)

abbrev pub definition_call_rules : ℕ → List ℕ → Scope → ℕ → List Rule
definition_call_rules n bs scope at =
    reaches_to bs (at + 2)
    ∷ record { kept = nat_lt (byte_at bs (at + 1)) n; fault = NoSuchDefinition (at + 1) }
    ∷ parameter_rules bs scope (at + 2)

abbrev pub binder_rules : List ℕ → ℕ → List Rule
binder_rules bs at = reaches_to bs (at + 2) ∷ in_range (byte_at bs (at + 1)) (at + 1) ∷ []

-- what a command begins: an expression without parts, or one that is made of two, with the variables bound in each
pub data Begun : Type 0 where
  alone : Expression → Begun
  of_two : Scope → Scope → (Expression → Expression → Expression) → Begun

-- a command byte, the rules of its operands, and what it begins
pub record Command : Type 0 where
  pub byte : ℕ
  pub rules : List Rule
  pub begun : Begun

-- The commands of a file with n definitions, at an offset. A sequential binds its variable in its right part, a pruning in
-- its left part.
abbrev pub commands : Meaning → ℕ → List ℕ → Scope → ℕ → List Command
commands m n bs scope at =
    let operand = byte_at bs (at + 1) in
    let parameter = parameter_at bs (at + 2) in
    record { byte = 0; rules = []; begun = alone stop }
    ∷ record { byte = 1; rules = site_call_rules m bs scope at; begun = alone (site_call operand parameter) }
    ∷ record { byte = 2; rules = definition_call_rules n bs scope at; begun = alone (definition_call operand parameter) }
    ∷ record { byte = 3; rules = []; begun = of_two scope scope parallel }
    ∷ record { byte = 4; rules = binder_rules bs at; begun = of_two scope (binding operand scope) (sequential operand) }
    ∷ record { byte = 5; rules = binder_rules bs at; begun = of_two (binding operand scope) scope (pruning operand) }
    ∷ []

abbrev pub named : ℕ → List Command → Option Command
named b [] = None
named b (c ∷ cs) = cond (b == c.byte) (Some c) (named b cs)

abbrev pub command_at : Meaning → ℕ → List ℕ → Scope → ℕ → Option Command
command_at m n bs scope at = named (byte_at bs at) (commands m n bs scope at)

-- the command at an offset keeps its rules
pub record SoundCommand (m : Meaning) (n : ℕ) (bs : List ℕ) (scope : Scope) (at : ℕ) (b : Begun) : Type 0 where
  pub within : at < length bs
  pub command : Command
  pub there : command_at m n bs scope at ≡ Some command
  pub kept : first_broken command.rules ≡ None
  pub begins : command.begun ≡ b

-- the first fault of the command at an offset
pub data FaultyCommand (m : Meaning) (n : ℕ) (bs : List ℕ) (scope : Scope) (at : ℕ) : Fault → Type 0 where
  none_there : length bs ≤ at → FaultyCommand m n bs scope at (CutShort (length bs))
  unknown : at < length bs → command_at m n bs scope at ≡ None → FaultyCommand m n bs scope at (UnknownCommand at)
  broken : {f : Fault} (c : Command) → at < length bs → command_at m n bs scope at ≡ Some c → first_broken c.rules ≡ Some f → FaultyCommand m n bs scope at f

-- The form at an offset: its expression and the offset behind it, or its first fault.
pub data FormOutcome (m : Meaning) (n : ℕ) (bs : List ℕ) : Scope → ℕ → Outcome (Expression × ℕ) → Type 0 where
  bad_command : {scope : Scope} {at : ℕ} {f : Fault} → FaultyCommand m n bs scope at f → FormOutcome m n bs scope at (Err f)
  reads_alone : {scope : Scope} {at : ℕ} {e : Expression} → SoundCommand m n bs scope at (alone e) → FormOutcome m n bs scope at (Ok (e, at + width_of (byte_at bs at)))
  bad_left : {scope left right : Scope} {at : ℕ} {make : Expression → Expression → Expression} {f : Fault}
      → SoundCommand m n bs scope at (of_two left right make) → FormOutcome m n bs left (at + width_of (byte_at bs at)) (Err f) → FormOutcome m n bs scope at (Err f)
  bad_right : {scope left right : Scope} {at middle : ℕ} {make : Expression → Expression → Expression} {e : Expression} {f : Fault}
      → SoundCommand m n bs scope at (of_two left right make) → FormOutcome m n bs left (at + width_of (byte_at bs at)) (Ok (e, middle)) → FormOutcome m n bs right middle (Err f)
      → FormOutcome m n bs scope at (Err f)
  reads_two : {scope left right : Scope} {at middle end : ℕ} {make : Expression → Expression → Expression} {e e' : Expression}
      → SoundCommand m n bs scope at (of_two left right make) → FormOutcome m n bs left (at + width_of (byte_at bs at)) (Ok (e, middle)) → FormOutcome m n bs right middle (Ok (e', end))
      → FormOutcome m n bs scope at (Ok (make e e', end))

-- A form that is to end where the bytes end.
pub data WholeOutcome (m : Meaning) (n : ℕ) (bs : List ℕ) (scope : Scope) (at : ℕ) : Outcome Expression → Type 0 where
  bad_form : {f : Fault} → FormOutcome m n bs scope at (Err f) → WholeOutcome m n bs scope at (Err f)
  trailing : {e : Expression} {end : ℕ} → FormOutcome m n bs scope at (Ok (e, end)) → end < length bs → WholeOutcome m n bs scope at (Err (TrailingBytes end))
  whole : {e : Expression} {end : ℕ} → FormOutcome m n bs scope at (Ok (e, end)) → length bs ≤ end → WholeOutcome m n bs scope at (Ok e)

-- A definition: its formal variable, the length of its form, and the form, in which the formal alone is bound. A length that
-- passes the file's end is a fault before the form is judged.
abbrev pub definition_end : List ℕ → ℕ → ℕ
definition_end bs at = at + 3 + two_at bs (at + 1)

abbrev pub definition_rules : List ℕ → ℕ → List Rule
definition_rules bs at = reaches_to bs (at + 1) ∷ in_range (byte_at bs at) at ∷ reaches_to bs (at + 3) ∷ reaches_to bs (definition_end bs at) ∷ []

-- the form of the definition, up to the definition's own end
abbrev pub BodyOutcome : Meaning → ℕ → List ℕ → ℕ → Outcome Expression → Type 0
BodyOutcome m n bs at o = WholeOutcome m n (take (definition_end bs at) bs) (binding (byte_at bs at) nothing_bound) (at + 3) o

pub data DefinitionOutcome (m : Meaning) (n : ℕ) (bs : List ℕ) (at : ℕ) : Outcome Definition → Type 0 where
  bad_head : {f : Fault} → first_broken (definition_rules bs at) ≡ Some f → DefinitionOutcome m n bs at (Err f)
  bad_body : {f : Fault} → first_broken (definition_rules bs at) ≡ None → BodyOutcome m n bs at (Err f) → DefinitionOutcome m n bs at (Err f)
  defines : {e : Expression} → first_broken (definition_rules bs at) ≡ None → BodyOutcome m n bs at (Ok e) → DefinitionOutcome m n bs at (Ok (record { formal = byte_at bs at; body = e }))

-- a definition in front of a file's others
abbrev pub defined_first : Definition → Outcome File → Outcome File
defined_first d (Ok file) = Ok (record { definitions = d ∷ file.definitions; goal = file.goal })
defined_first d (Err f) = Err f

-- What stands from an offset on: some definitions of n, and the goal's form, in which nothing is bound.
pub data RestOutcome (m : Meaning) (n : ℕ) (bs : List ℕ) : ℕ → ℕ → Outcome File → Type 0 where
  bad_definition : {k at : ℕ} {f : Fault} → DefinitionOutcome m n bs at (Err f) → RestOutcome m n bs (suc k) at (Err f)
  good_definition : {k at : ℕ} {d : Definition} {o o' : Outcome File}
      → DefinitionOutcome m n bs at (Ok d) → RestOutcome m n bs k (definition_end bs at) o → o' ≡ defined_first d o → RestOutcome m n bs (suc k) at o'
  bad_goal : {at : ℕ} {f : Fault} → WholeOutcome m n bs nothing_bound at (Err f) → RestOutcome m n bs 0 at (Err f)
  good_goal : {at : ℕ} {e : Expression} → WholeOutcome m n bs nothing_bound at (Ok e) → RestOutcome m n bs 0 at (Ok (record { definitions = []; goal = e }))

-- the count of definitions, the file's first byte
abbrev pub count_rules : List ℕ → List Rule
count_rules bs = reaches_to bs 1 ∷ record { kept = nat_le (byte_at bs 0) 16; fault = OperandBeyondRange 0 } ∷ []

-- The file.
pub data FileOutcome (m : Meaning) (bs : List ℕ) : Outcome File → Type 0 where
  too_long : 4096 < length bs → FileOutcome m bs (Err TooLong)
  bad_count : {f : Fault} → length bs ≤ 4096 → first_broken (count_rules bs) ≡ Some f → FileOutcome m bs (Err f)
  by_bytes : {o : Outcome File} → length bs ≤ 4096 → first_broken (count_rules bs) ≡ None → RestOutcome m (byte_at bs 0) bs (byte_at bs 0) 1 o → FileOutcome m bs o
