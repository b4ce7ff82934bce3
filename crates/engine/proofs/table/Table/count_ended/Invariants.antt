use Rattle.std.proofs.Common.{Bool, filter}
use Rattle.orc.specs.Calls.{Pending, pending_calls}
use Rattle.forms.specs.Heads.{expression}
use Rattle.places.specs.Tickets.{pendings_left}
use Rattle.engine.specs.Tallies.{Room}
use Rattle.engine.specs.Ended.{Decides}
use Rattle.engine.proofs.Counting.{LeftToCount}
use Rattle.engine.proofs.table.Table.count_ended.Given as goal

abbrev pub invariant-loop-placed : goal.invariant-loop-placed
invariant-loop-placed g l =
    (goal.iterator-loop-placed g).can_next l.placed-iterator
    × (goal.iterator-loop-placed g).is_finite l.placed-iterator
    × ((test : Pending → Bool) → Decides (goal.E-post g l.ends) test → Room l.initial.self l.cause (filter test (pending_calls (expression l.whole.form))) → LeftToCount test l.cause (pending_calls (expression l.whole.form)) (pendings_left l.placed-iterator) l.initial.self l.self)
