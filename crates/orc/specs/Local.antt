-- The four sites that every controller has. Assumes nothing.
use Rattle.std.specs.Prelude.{ℕ, true, false, cond, [], ◌∷◌, ◌==◌}
use Rattle.orc.specs.Meaning.{Handle, Meaning, unknown, known}

-- one reply: v at age n
abbrev pub exactly : ℕ → ℕ → Handle
exactly n v = record { windows = record { earliest = n; latest = n; lowest = v; highest = v } ∷ []; silent = false }

-- never a reply
abbrev pub never : Handle
never = record { windows = []; silent = true }

-- let replies with its parameter at once
abbrev pub let_replies : ℕ → Handle
let_replies v = exactly 0 v

-- if replies 0 at once, and is silent for 0, which is false
abbrev pub if_replies : ℕ → Handle
if_replies v = cond (v == 0) never (exactly 0 0)

-- signal is like if of 1
abbrev pub signal_replies : ℕ → Handle
signal_replies v = if_replies 1

-- rtimer replies 0 at the age that its parameter says
abbrev pub rtimer_replies : ℕ → Handle
rtimer_replies v = exactly v 0

abbrev pub local : Meaning
local s = cond (s == 0) (known let_replies) (cond (s == 1) (known if_replies) (cond (s == 2) (known signal_replies) (cond (s == 3) (known rtimer_replies) unknown)))
