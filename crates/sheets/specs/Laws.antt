-- What a reader of the format may rely on. Assumes nothing.
use Rattle.std.specs.Prelude.{◌≡◌, ℕ, true, List, Ok}
use Rattle.formats.specs.Operands.{Bytes}
use Rattle.sheets.specs.Format.{SheetRow, Outcome, SheetOutcome, sheet_bytes, sound_sheet}

-- A sheet is accepted with some rows exactly if its bytes are the encoding of these rows, and the rows keep every rule.
abbrev pub AcceptedExactlyIfEncoded : Type 0
AcceptedExactlyIfEncoded =
    (bs : List ℕ) → Bytes bs → (rows : List SheetRow) → (SheetOutcome bs (Ok rows) → (sound_sheet rows ≡ true) × (bs ≡ sheet_bytes rows)) × ((sound_sheet rows ≡ true) × (bs ≡ sheet_bytes rows) → SheetOutcome bs (Ok rows))

-- Every sheet has exactly one outcome.
abbrev pub ExactlyOneOutcome : Type 0
ExactlyOneOutcome = (bs : List ℕ) → (o : Outcome) × SheetOutcome bs o × ((o' : Outcome) → SheetOutcome bs o' → o' ≡ o)
