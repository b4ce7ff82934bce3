use Rattle.std.proofs.Common.{sym, ap, ◌∙◌, arith}
use Rattle.orc.specs.Variables.{is_variable}
use Rattle.forms.specs.Heads.{parameter_of}
use Rattle.walks.proofs.Frees.{one_held}
use Rattle.walks.proofs.variables.Variables.of.Goals as goal

pub returns-in-Variable : goal.returns-in-Variable
returns-in-Variable c x small =
    one_held c.in-Variable.variable (omega (arith, c.if-variable-from.true, c.from.ensures)) x ∙ ap (λ p. is_variable x (parameter_of p)) (sym c.in-Variable.is)
