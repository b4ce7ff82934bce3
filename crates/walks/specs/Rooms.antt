-- What a head and its parts take up in a form. Assumes nothing.
use Rattle.std.specs.Prelude.{ℕ, ◌+◌, Some, None, Option}
use Rattle.orc.specs.Expressions.{size}
use Rattle.forms.specs.Heads.{expression, parts_of}
use Rattle.forms.specs.declared.form.Form.{Form}
use Rattle.forms.specs.declared.form.Head.{Head}
use Rattle.forms.specs.declared.form.Head.TheVariants.{Stop, SiteCall, DefinitionCall, Parallel, Sequential, Pruning, Pending}

-- the width of a head's command with its operands
abbrev pub own_width : Head → ℕ
own_width Stop = 1
own_width (SiteCall s p) = 5
own_width (DefinitionCall i p) = 5
own_width (Parallel f g) = 1
own_width (Sequential x f g) = 2
own_width (Pruning x f g) = 2
own_width (Pending p) = 12

abbrev pub parts_size : Option (Form × Form) → ℕ
parts_size None = 0
parts_size (Some p) = size (expression p.0) + size (expression p.1)

abbrev pub head_size : Head → ℕ
head_size h = own_width h + parts_size (parts_of h)
