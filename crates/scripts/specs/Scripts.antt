-- What a script says: its lines in order, up to the first that is at fault. Assumes nothing.
use Rattle.std.specs.Prelude.{◌≡◌, ℕ, ◌+◌, ◌<◌, List, [], ◌∷◌, ◌++◌, length, get_or, Some, None, Ok, Err, Option, MatchOption}
use Rattle.runs.specs.declared.call.Call.{Call}
use Rattle.scripts.specs.declared.script.BadLine.{BadLine}
use Rattle.scripts.specs.Words.{words}
use Rattle.scripts.specs.Lines.{Says}

-- The first n lines are at no fault, and these are their calls.
pub data Said (ls : List (List ℕ)) : ℕ → List Call → Type 0 where
  nothing_yet : Said ls 0 []
  no_call : {n : ℕ} {calls : List Call} → Said ls n calls → n < length ls → Says (words (get_or ls n [])) (Ok None) → Said ls (n + 1) calls
  one_call : {n : ℕ} {calls : List Call} (c : Call) → Said ls n calls → n < length ls → Says (words (get_or ls n [])) (Ok (Some c)) → Said ls (n + 1) (calls ++ (c ∷ []))

-- The line with a number, from 1, is at fault, and those before it are not.
pub record Stops (ls : List (List ℕ)) (calls : List Call) (bad : BadLine) : Type 0 where
  pub before : ℕ
  pub numbered : bad.line ≡ before + 1
  pub within : before < length ls
  pub said : Said ls before calls
  pub faulty : Says (words (get_or ls before [])) (Err bad.fault)

-- The calls of a script are those of all its lines, or of those before the first that is at fault.
abbrev pub Reads : List (List ℕ) → List Call → Option BadLine → Type 0
Reads ls calls bad = MatchOption bad (Said ls (length ls) calls) (Stops ls calls)
