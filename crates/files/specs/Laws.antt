-- What a reader of the format may rely on. Assumes nothing.
use Rattle.std.specs.Prelude.{◌≡◌, ℕ, List, Ok}
use Rattle.orc.specs.Meaning.{Meaning}
use Rattle.orc.specs.Files.{File, file_bytes, WellFormed}
use Rattle.formats.specs.Operands.{Bytes}
use Rattle.files.specs.Judgement.{Outcome, FileOutcome}
use Rattle.files.specs.Contents.{file_of}

-- Over any meaning every list has exactly one outcome.
abbrev pub ExactlyOneOutcome : Type 0
ExactlyOneOutcome = (m : Meaning) (bs : List ℕ) → (o : Outcome File) × FileOutcome m bs o × ((o' : Outcome File) → FileOutcome m bs o' → o' ≡ o)

-- Bytes are accepted as a file exactly if they are the encoding of this file, and it is well-formed over the meaning.
abbrev pub AcceptedExactlyIfWellFormed : Type 0
AcceptedExactlyIfWellFormed =
    (m : Meaning) (bs : List ℕ) → Bytes bs → (file : File) → (FileOutcome m bs (Ok file) → WellFormed m file × (bs ≡ file_bytes file)) × (WellFormed m file × (bs ≡ file_bytes file) → FileOutcome m bs (Ok file))

-- The bytes of a file are read back as the file. So no two files have the same bytes.
abbrev pub FilesAreReadBack : Type 0
FilesAreReadBack = (file : File) → file_of (file_bytes file) ≡ file
