-- The line that is written of a call. Assumes nothing.
use Rattle.std.specs.Prelude.{ℕ, List, ◌++◌, codes, decimal}
use Rattle.runs.specs.declared.call.Call.{Call}
use Rattle.runs.specs.declared.call.Call.TheVariants.{Go, Answer, Wait}

abbrev pub line_of : Call → List ℕ
line_of (Go n) = codes "go " ++ decimal n
line_of (Answer k v) = codes "answer " ++ (decimal k ++ (codes " " ++ decimal v))
line_of (Wait d) = codes "wait " ++ decimal d
