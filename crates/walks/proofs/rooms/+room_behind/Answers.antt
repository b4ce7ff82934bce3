use Rattle.std.proofs.Common.{◌≡◌, ℕ, ◌+◌, ◌<◌, Some, None, Option, ap, arith, MatchOption}
use Rattle.walks.specs.Rooms.{parts_size}
use Rattle.walks.proofs.rooms.+room_behind.Goals as goal

-- what is left behind the last part is left behind the whole
behind_last : (r : Option ℕ) (room left part whole : ℕ) → left + whole ≡ room + part → MatchOption r (left < part) (λ n. n + part ≡ left) → MatchOption r (room < whole) (λ n. n + whole ≡ room)
behind_last None room left part whole all h = omega arith
behind_last (Some n) room left part whole all h = omega arith

pub returns-in_err-room : goal.returns-in_err-room
returns-in_err-room t c = rw c.from_residual.ensures (omega (arith, c.in_err-room.ensures))

pub returns-in_default : goal.returns-in_default
returns-in_default t c = omega (arith, c.in_ok-room.ensures, ap parts_size c.in_default.ensures)

pub returns-in_err-room-2 : goal.returns-in_err-room-2
returns-in_err-room-2 t c =
    rw c.from_residual-in_err-room-2.ensures (omega (arith, c.in_ok-room.ensures, ap parts_size c.in-Some.ensures, c.in_err-room-2.ensures))

pub returns : goal.returns
returns t c =
    behind_last c.room_behind-2.result _ _ _ _ (omega (arith, c.in_ok-room.ensures, ap parts_size c.in-Some.ensures, c.in_ok-room-2.ensures)) c.room_behind-2.ensures
