-- What the definitions of the code stand for. Assumes nothing.
use Rattle.orc.specs.Expressions.{Definition}
use Rattle.forms.specs.Heads.{expression}
use Rattle.files.specs.declared.contents.Definition.{Definition as Found}

abbrev pub definition_of : Found → Definition
definition_of d = record { formal = d.formal; body = expression d.body }
