-- The first line of a report. Assumes nothing.
use Rattle.std.specs.Prelude.{◌≡◌, ℕ, List, ◌++◌, Ok, Err, codes, Result}
use Rattle.formats.specs.declared.fault.Fault.{Fault}
use Rattle.verdicts.specs.Verdicts.{verdict}
use Rattle.formats.specs.Faults.{told}

-- `accepted`, or `refused NUMBER at PLACE: Name`, and the end of the line
abbrev pub first_line : {X : Type 0} → Result X Fault → List ℕ
first_line (Ok x) = codes "accepted\n"
first_line (Err f) = verdict (told f) ++ codes "\n"

-- a text begins with a line
abbrev pub Begins : List ℕ → List ℕ → Type 0
Begins line text = (rest : List ℕ) × (text ≡ line ++ rest)
