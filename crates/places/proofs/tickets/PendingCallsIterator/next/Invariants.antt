use Rattle.std.proofs.Common.{◌≡◌, ◌-◌, length}
use Rattle.places.specs.Tickets.{placed_left}
use Rattle.places.proofs.tickets.PendingCallsIterator.next.Given as goal

abbrev pub invariant-loop-next : goal.invariant-loop-next
invariant-loop-next l = record { same_bytes : l.self.bytes.now ≡ l.initial.self.bytes.now; left : placed_left l.initial.self ≡ placed_left l.self }

abbrev pub decreases-loop-next : goal.decreases-loop-next
decreases-loop-next l = length l.self.bytes.now - l.self.at
