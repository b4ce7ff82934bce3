use Rattle.std.proofs.Common.{length}
use Rattle.walks.proofs.rooms.+room_behind.Given as goal

abbrev pub decreases-room_behind : goal.decreases-room_behind
decreases-room_behind l = length l.form.bytes.now
