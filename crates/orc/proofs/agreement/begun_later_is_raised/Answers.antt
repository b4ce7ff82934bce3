use Rattle.orc.proofs.Raising.{begun_later_is_raised}
use Rattle.orc.proofs.agreement.begun_later_is_raised.Goals as goal

-- src/agreement.rt:19:1
pub returns : goal.returns
returns c = begun_later_is_raised
