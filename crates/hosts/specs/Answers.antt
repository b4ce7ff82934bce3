-- What a host is asked of a call. Assumes nothing.
use Rattle.std.specs.Prelude.{ℕ, Option}
use Rattle.std.specs.Option.{option_map}
use Rattle.orc.specs.Meaning.{Window, Handle}
use Rattle.orc.specs.Expressions.{entry}

-- the ticks of a window, and its values, each as a pair
abbrev pub ticks_of : Window → ℕ × ℕ
ticks_of w = (w.earliest, w.latest)

abbrev pub values_of : Window → ℕ × ℕ
values_of w = (w.lowest, w.highest)

-- of the window of a number, from 0; absent at or above the count
abbrev pub ticks_at : Handle → ℕ → Option (ℕ × ℕ)
ticks_at h i = option_map ticks_of (entry h.windows i)

abbrev pub values_at : Handle → ℕ → Option (ℕ × ℕ)
values_at h i = option_map values_of (entry h.windows i)
