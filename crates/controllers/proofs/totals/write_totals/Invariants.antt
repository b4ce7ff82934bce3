use Rattle.std.proofs.Common.{◌≡◌}
use Rattle.engine.specs.Stands.{state_of}
use Rattle.controllers.specs.Shown.{all_totals}
use Rattle.controllers.proofs.Laying.{laid_to}
use Rattle.controllers.proofs.totals.write_totals.Given as goal

-- the totals so far are written over what was there
abbrev pub invariant-loop-site : goal.invariant-loop-site
invariant-loop-site g l = l.totals ≡ laid_to l.site (all_totals (state_of l.run.plain)) l.initial.totals
