-- What the instances of the code stand for. Assumes nothing.
use Rattle.orc.specs.Expressions.{Expression}
use Rattle.orc.specs.Variables.{substitute}
use Rattle.forms.specs.Heads.{expression}
use Rattle.steps.specs.declared.instance.Instance.{Instance}

abbrev pub instance : Instance → Expression
instance i = substitute i.value i.variable (expression i.form)
