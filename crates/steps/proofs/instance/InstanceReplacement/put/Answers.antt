use Rattle.std.proofs.Common.{rules}
use Rattle.forms.specs.Heads.{expression}
use Rattle.steps.proofs.Sizes.{substituted_size}
use Rattle.steps.proofs.instance.InstanceReplacement.put.Goals as goal

pub returns : goal.returns
returns c =
    let same = substituted_size c.args.self.value c.args.self.variable (expression c.args.self.form) in
    search rules
