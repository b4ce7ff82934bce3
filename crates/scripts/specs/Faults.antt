-- The message of each fault of a line. Assumes nothing.
use Rattle.std.specs.Prelude.{ℕ, List, ◌++◌, codes, decimal}
use Rattle.scripts.specs.declared.fault.LineFault.{LineFault}
use Rattle.scripts.specs.declared.fault.LineFault.TheVariants.{UnknownWord, NumberMissing, NotANumber, TooLarge, WordsLeft}

abbrev pub message : LineFault → List ℕ
message UnknownWord = codes "unknown word: expected go, answer, wait or a comment after #"
message NumberMissing = codes "a number is missing"
message NotANumber = codes "not a number: expected decimal digits"
message (TooLarge most) = codes "the number is above " ++ decimal most
message WordsLeft = codes "words are left over"
