-- Ranges in words. Assumes nothing.
use Rattle.std.specs.Prelude.{ℕ, ◌-◌, ◌*◌, min, cond, List, ◌++◌, length, codes, decimal, ◌==◌}
use Rattle.orc.specs.Meaning.{no_end}

-- a range, or its one number
abbrev pub range_text : ℕ → ℕ → List ℕ
range_text from to = cond (from == to) (decimal from) (decimal from ++ (codes " to " ++ decimal to))

-- the ages of a window, each tick counted as a number of units
abbrev pub ages_text : ℕ → ℕ → ℕ → List ℕ
ages_text earliest latest unit = cond (latest == no_end) (decimal (earliest * unit) ++ codes " to no end") (range_text (earliest * unit) (latest * unit))

-- the line of bytes around a place begins with the offset of the first byte shown, eight before the place if there are so many
abbrev pub offset_text : List ℕ → ℕ → List ℕ
offset_text bs place = codes "  offset " ++ (decimal (min (place - 8) (length bs)) ++ codes ":")
