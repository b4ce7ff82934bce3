use Rattle.std.proofs.Common.{sym, ◌∙◌}
use Rattle.engine.specs.Stands.{state_of}
use Rattle.controllers.proofs.Ordering.{makes_call}
use Rattle.controllers.proofs.order.make.Goals as goal

pub returns-in-Some-clause-made : goal.returns-in-Some-clause-made
returns-in-Some-clause-made g c =
    let p = c.args.run.now.plain in
    makes_call (g.H.Host.meaning c.args.run.now.host) (state_of p) (state_of c.make.new.self.plain) c.args.order c.in-Some.call c.make.result c.of.result p.bodies p.fits c.in-Some.ensures.in_range (sym c.call.ensures.call ∙ c.in-Some.is) c.make.ensures.outcome c.of.ensures
