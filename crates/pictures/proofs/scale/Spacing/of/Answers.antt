use Rattle.std.proofs.Common.{arith}
use Rattle.pictures.proofs.Smallest.{first_fit-Scale}
use Rattle.pictures.proofs.scale.Spacing.of.Goals as goal

pub returns : goal.returns
returns c = rw (c.unwrap_or-ticks.ensures, c.first_fit.ensures) (first_fit-Scale c.args.clock (omega (arith, c.ranges.clock)))
