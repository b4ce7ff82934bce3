-- Eight files over the local sites, from their bytes. Assumes nothing.
use Rattle.std.specs.Prelude.{◌≡◌, ℕ, List, [], ◌∷◌, Ok, Err}
use Rattle.orc.specs.Local.{local}
use Rattle.orc.specs.Files.{File}
use Rattle.formats.specs.declared.fault.Fault.TheVariants.{SiteUnknown}
use Rattle.files.specs.Judgement.{Outcome, FileOutcome}
use Rattle.runs.specs.declared.call.Call.{Call}
use Rattle.runs.specs.Outcomes.{Response}
use Rattle.runs.specs.Cases.{Left, ComesTo, WorkedCases}

-- begin judges the bytes so, and not otherwise
pub record Judged (bs : List ℕ) (o : Outcome File) : Type 0 where
  pub outcome : FileOutcome local bs o
  pub only : (o' : Outcome File) → FileOutcome local bs o' → o' ≡ o

pub record EightWorkedCases : Type 0 where
  -- Seven runs, and four more at limits and edges, from the bytes of their files: the responses to their calls, and what
  -- they leave, and no other.
  pub runs : WorkedCases
  -- The bytes of each such run are accepted by begin as its file, and as nothing else.
  pub begun : {bs : List ℕ} {file : File} {calls : List Call} {responses : List Response} {site : ℕ} {left : Left} → ComesTo bs file calls responses site left → Judged bs (Ok file)
  -- And a call of site 4, which is none of the local sites, is refused at its place.
  pub unknown_site : Judged (0 ∷ 1 ∷ 4 ∷ 0 ∷ 0 ∷ 0 ∷ []) (Err (SiteUnknown 2))
