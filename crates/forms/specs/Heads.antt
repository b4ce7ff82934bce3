-- What the heads of the code stand for. Assumes nothing.
use Rattle.std.specs.Prelude.{◌≡◌, ℕ, ◌+◌, ◌≤◌, List, ◌∷◌, ◌++◌, length, Some, None, Option}
use Rattle.orc.specs.Expressions.{Parameter, value, variable, Expression, stop, site_call, definition_call, parallel, sequential, pruning, pending, bytes}
use Rattle.forms.specs.Reading.{read, expression_of}
use Rattle.forms.specs.declared.command.Command.{Command}
use Rattle.forms.specs.declared.form.Form.{Form}
use Rattle.forms.specs.declared.form.Parameter.{Parameter as Operand}
use Rattle.forms.specs.declared.form.Parameter.TheVariants.{Value, Variable}
use Rattle.forms.specs.declared.form.Head.{Head}
use Rattle.forms.specs.declared.form.Head.TheVariants.{Stop, SiteCall, DefinitionCall, Parallel, Sequential, Pruning, Pending}

-- the expression that a form is read as
abbrev pub expression : Form → Expression
expression f = expression_of f.bytes.now

-- bytes that are a form, and no more
abbrev pub IsForm : List ℕ → Type 0
IsForm bs = bytes (expression_of bs) ≡ bs

abbrev pub parameter_of : Operand → Parameter
parameter_of (Value v) = value v
parameter_of (Variable x) = variable x

-- the expression that a head tells of
abbrev pub headed : Head → Expression
headed Stop = stop
headed (SiteCall s p) = site_call s (parameter_of p)
headed (DefinitionCall i p) = definition_call i (parameter_of p)
headed (Parallel f g) = parallel (expression f) (expression g)
headed (Sequential x f g) = sequential x (expression f) (expression g)
headed (Pruning x f g) = pruning x (expression f) (expression g)
headed (Pending p) = pending p.ticket p.site p.value p.clock

-- the parts of a head, if it has any
abbrev pub parts_of : Head → Option (Form × Form)
parts_of Stop = None
parts_of (SiteCall s p) = None
parts_of (DefinitionCall i p) = None
parts_of (Parallel f g) = Some (f, g)
parts_of (Sequential x f g) = Some (f, g)
parts_of (Pruning x f g) = Some (f, g)
parts_of (Pending p) = None

-- the command that it begins with
abbrev pub command_of : Head → Command
command_of Stop = Command.Stop
command_of (SiteCall s p) = Command.SiteCall
command_of (DefinitionCall i p) = Command.DefinitionCall
command_of (Parallel f g) = Command.Parallel
command_of (Sequential x f g) = Command.Sequential
command_of (Pruning x f g) = Command.Pruning
command_of (Pending p) = Command.Pending

-- The parts of a head are stretches of the form: behind the command and its operand, one behind the other.
abbrev pub MadeOf : List ℕ → Head → Type 0
MadeOf bs Stop = Unit {0}
MadeOf bs (SiteCall s p) = Unit {0}
MadeOf bs (DefinitionCall i p) = Unit {0}
MadeOf bs (Parallel f g) = bs ≡ 3 ∷ (f.bytes.now ++ g.bytes.now)
MadeOf bs (Sequential x f g) = bs ≡ 4 ∷ x ∷ (f.bytes.now ++ g.bytes.now)
MadeOf bs (Pruning x f g) = bs ≡ 5 ∷ x ∷ (f.bytes.now ++ g.bytes.now)
MadeOf bs (Pending p) = Unit {0}

-- so the form is longer than its parts by the command and its operand
abbrev pub Longer : ℕ → Head → Type 0
Longer n Stop = Unit {0}
Longer n (SiteCall s p) = Unit {0}
Longer n (DefinitionCall i p) = Unit {0}
Longer n (Parallel f g) = n ≡ length f.bytes.now + length g.bytes.now + 1
Longer n (Sequential x f g) = n ≡ length f.bytes.now + length g.bytes.now + 2
Longer n (Pruning x f g) = n ≡ length f.bytes.now + length g.bytes.now + 2
Longer n (Pending p) = Unit {0}

-- the parts of a head are forms themselves
abbrev pub MadeOfForms : Head → Type 0
MadeOfForms Stop = Unit {0}
MadeOfForms (SiteCall s p) = Unit {0}
MadeOfForms (DefinitionCall i p) = Unit {0}
MadeOfForms (Parallel f g) = IsForm f.bytes.now × IsForm g.bytes.now
MadeOfForms (Sequential x f g) = IsForm f.bytes.now × IsForm g.bytes.now
MadeOfForms (Pruning x f g) = IsForm f.bytes.now × IsForm g.bytes.now
MadeOfForms (Pending p) = Unit {0}

-- A list is two parts, one behind the other, as reading takes them; and if it is the bytes of two expressions, the parts
-- are these.
pub record TwoParts (l left right : List ℕ) : Type 0 where
  pub together : l ≡ left ++ right
  pub left_read : (k : ℕ) → length l ≤ k → (read k l).expression ≡ expression_of left
  pub right_read : (k : ℕ) → length l ≤ k → (read k (read k l).rest).expression ≡ expression_of right
  pub exact : (f g : Expression) → l ≡ bytes f ++ bytes g → (left ≡ bytes f) × (right ≡ bytes g)
