use Rattle.std.proofs.Common.{rules}
use Rattle.orc.specs.Meaning.{can_stand}
use Rattle.walks.proofs.ages.can_stand.Goals as goal

pub returns-then-silent : goal.returns-then-silent
unfolding can_stand
returns-then-silent g c = search rules

pub returns-else-silent : goal.returns-else-silent
unfolding can_stand
returns-else-silent g c = search rules
