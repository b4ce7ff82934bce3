-- What the pending calls of the code and their places stand for. Assumes nothing.
use Rattle.std.specs.Prelude.{List}
use Rattle.orc.specs.Calls.{Pending}
use Rattle.forms.specs.Pendings.{pending_of}
use Rattle.places.specs.Scans as scans
use Rattle.places.specs.Scans.{placed_from, pendings_from}
use Rattle.places.specs.declared.tickets.Placed.{Placed}
use Rattle.places.specs.declared.tickets.PendingCalls.{PendingCalls}

abbrev pub placed_of : Placed → scans.Placed
placed_of p = record { place = p.place; call = pending_of p.call }

-- the pending calls that are yet to come, with their places
abbrev pub placed_left : PendingCalls → List scans.Placed
placed_left s = placed_from s.bytes.now s.at

-- the same without places
abbrev pub pendings_left : PendingCalls → List Pending
pendings_left s = pendings_from s.bytes.now s.at
