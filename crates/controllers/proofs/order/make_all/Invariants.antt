use Rattle.std.proofs.Common.{◌≡◌}
use Rattle.engine.specs.Stands.{state_of}
use Rattle.controllers.proofs.Ordering.{MadeTo}
use Rattle.controllers.proofs.order.make_all.Given as goal

-- the orders so far are made and noted
abbrev pub invariant-loop-order : goal.invariant-loop-order
invariant-loop-order g l =
    (l.run.host ≡ l.initial.run.host)
    × MadeTo (g.H.Host.meaning l.initial.run.host) (state_of l.initial.run.plain) l.initial.orders l.order-index l.orders (state_of l.run.plain)
