-- What a run is loaded with. Assumes nothing.
use Rattle.std.specs.Prelude.{◌≡◌, ℕ, List}
use Rattle.orc.specs.Meaning.{Meaning}
use Rattle.orc.specs.Files.{file_bytes, WellFormed}
use Rattle.files.specs.Contents.{file_of}

-- The bytes are the encoding of a file that is well-formed over some meaning.
pub record Accepted (bs : List ℕ) : Type 0 where
  pub meaning : Meaning
  pub well_formed : WellFormed meaning (file_of bs)
  pub encoded : bs ≡ file_bytes (file_of bs)
