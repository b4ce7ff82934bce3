-- The site sheet: rows and windows, their bytes, and how a sheet is judged. Assumes nothing.
use Rattle.std.specs.Prelude.{◌≡◌, ℕ, ◌+◌, ◌<◌, ◌≤◌, Bool, true, false, cond, ◌&&◌, ◌||◌, List, [], ◌∷◌, ◌++◌, reverse, length, Some, None, Ok, Err, Result, MatchResult, ◌==◌, ◌≢◌, nat_le}
use Rattle.orc.specs.Meaning.{Window, nonempty}
use Rattle.orc.specs.Expressions.{two_bytes, four_bytes}
use Rattle.formats.specs.declared.fault.Fault.{Fault}
use Rattle.formats.specs.declared.fault.Fault.TheVariants.{UnknownCommand, OperandBeyondRange, TooLong, WindowBeforeRow, EmptyRow, SecondBelowFirst, TooMany}
use Rattle.formats.specs.Operands.{byte_at, two_at, four_at, Rule, reaches_to, first_broken}
use Rattle.formats.specs.Widths.{width_of}

-- A row: a site, the arguments from the first to the last that it speaks of, whether the site may stay silent, and the
-- windows in which it may reply.
pub record SheetRow : Type 0 where
  pub site : ℕ
  pub first : ℕ
  pub last : ℕ
  pub silent : Bool
  pub windows : List Window

-- The bytes of a sheet. A row is command 16, site, first, last and silence, 0 or 1, and then its windows: command 17,
-- earliest, latest, lowest, highest.
abbrev pub window_bytes : Window → List ℕ
window_bytes w = 17 ∷ (four_bytes w.earliest ++ (four_bytes w.latest ++ (two_bytes w.lowest ++ two_bytes w.highest)))

abbrev pub windows_bytes : List Window → List ℕ
windows_bytes [] = []
windows_bytes (w ∷ ws) = window_bytes w ++ windows_bytes ws

abbrev pub row_bytes : SheetRow → List ℕ
row_bytes r = 16 ∷ r.site ∷ (two_bytes r.first ++ (two_bytes r.last ++ (cond r.silent 1 0 ∷ windows_bytes r.windows)))

unfoldable pub sheet_bytes : List SheetRow → List ℕ
sheet_bytes [] = []
sheet_bytes (r ∷ rs) = row_bytes r ++ sheet_bytes rs

-- What rows and windows keep: ranges, pairs in order, at most four windows in a row and 64 rows in a sheet, and in each
-- row a window or silence.
abbrev pub every : {X : Type 0} → (X → Bool) → List X → Bool
every f [] = true
every f (x ∷ xs) = f x && every f xs

abbrev pub sound_window : Window → Bool
sound_window w = nat_le w.earliest 4294967294 && (nat_le w.earliest w.latest && (nat_le w.latest 4294967295 && (nat_le w.lowest w.highest && nat_le w.highest 65535)))

-- all but that it has a window or silence
abbrev pub sound_so_far : SheetRow → Bool
sound_so_far r = nat_le r.site 27 && (nat_le r.first r.last && (nat_le r.last 65535 && (nat_le (length r.windows) 4 && every sound_window r.windows)))

abbrev pub says_something : SheetRow → Bool
says_something r = r.silent || nonempty r.windows

abbrev pub sound_row : SheetRow → Bool
sound_row r = sound_so_far r && says_something r

unfoldable pub sound_sheet : List SheetRow → Bool
sound_sheet rs = nat_le (length rs) 64 && every sound_row rs

-- How a sheet is judged: command by command, and within a command operand by operand, to the first fault. An operand is
-- judged once its last byte is there; its fault's place is its first byte.

-- the row whose command stands at an offset, with no window yet
abbrev pub row_at : List ℕ → ℕ → SheetRow
row_at bs at = record { site = byte_at bs (at + 1); first = two_at bs (at + 2); last = two_at bs (at + 4); silent = (byte_at bs (at + 6) == 1); windows = [] }

-- The two ends of a range of numbers, in order. They stand at two offsets, and end at a third.
abbrev pub range_rules : List ℕ → ℕ → ℕ → ℕ → List Rule
range_rules bs first last end = reaches_to bs last ∷ reaches_to bs end ∷ record { kept = nat_le (two_at bs first) (two_at bs last); fault = SecondBelowFirst last } ∷ []

abbrev pub row_rules : List ℕ → ℕ → List Rule
row_rules bs at =
    reaches_to bs (at + 2)
    ∷ record { kept = nat_le (byte_at bs (at + 1)) 27; fault = OperandBeyondRange (at + 1) }
    ∷ range_rules bs (at + 2) (at + 4) (at + 6)
    ++ (reaches_to bs (at + 7) ∷ record { kept = nat_le (byte_at bs (at + 6)) 1; fault = OperandBeyondRange (at + 6) } ∷ [])

-- the window whose command stands at an offset
abbrev pub window_at : List ℕ → ℕ → Window
window_at bs at = record { earliest = four_at bs (at + 1); latest = four_at bs (at + 5); lowest = two_at bs (at + 9); highest = two_at bs (at + 11) }

abbrev pub window_rules : List ℕ → ℕ → List Rule
window_rules bs at =
    reaches_to bs (at + 5)
    ∷ record { kept = nat_le (four_at bs (at + 1)) 4294967294; fault = OperandBeyondRange (at + 1) }
    ∷ reaches_to bs (at + 9)
    ∷ record { kept = nat_le (four_at bs (at + 1)) (four_at bs (at + 5)); fault = SecondBelowFirst (at + 5) }
    ∷ range_rules bs (at + 9) (at + 11) (at + 13)

abbrev pub with_window : SheetRow → Window → SheetRow
with_window r w = record { site = r.site; first = r.first; last = r.last; silent = r.silent; windows = r.windows ++ (w ∷ []) }

-- The rows read so far stand newest first. The newest says something, or there is none.
abbrev pub newest_done : List SheetRow → Bool
newest_done [] = true
newest_done (r ∷ rs) = says_something r

-- the command at an offset is whole and sound, and makes the rows read so far into others
pub data Reads (bs : List ℕ) (at : ℕ) (rs rs' : List SheetRow) : Type 0 where
  reads_row : byte_at bs at ≡ 16 → newest_done rs ≡ true → length rs < 64 → first_broken (row_rules bs at) ≡ None → rs' ≡ row_at bs at ∷ rs → Reads bs at rs rs'
  reads_window : (r : SheetRow) (rest : List SheetRow) → byte_at bs at ≡ 17 → rs ≡ r ∷ rest → length r.windows < 4 → first_broken (window_rules bs at) ≡ None → rs' ≡ with_window r (window_at bs at) ∷ rest → Reads bs at rs rs'

-- the first fault of the command at an offset, after the rows read so far
pub data Faulty (bs : List ℕ) (at : ℕ) (rs : List SheetRow) : Fault → Type 0 where
  no_command : (byte_at bs at ≢ 16) → (byte_at bs at ≢ 17) → Faulty bs at rs (UnknownCommand at)
  -- a row that says nothing has no window, so its command stands seven bytes back
  after_empty_row : {p : ℕ} → byte_at bs at ≡ 16 → newest_done rs ≡ false → p + 7 ≡ at → Faulty bs at rs (EmptyRow p)
  row_65 : byte_at bs at ≡ 16 → newest_done rs ≡ true → 64 ≤ length rs → Faulty bs at rs (TooMany at)
  bad_row : {f : Fault} → byte_at bs at ≡ 16 → newest_done rs ≡ true → length rs < 64 → first_broken (row_rules bs at) ≡ Some f → Faulty bs at rs f
  window_first : byte_at bs at ≡ 17 → rs ≡ [] → Faulty bs at rs (WindowBeforeRow at)
  window_5 : (r : SheetRow) (rest : List SheetRow) → byte_at bs at ≡ 17 → rs ≡ r ∷ rest → 4 ≤ length r.windows → Faulty bs at rs (TooMany at)
  bad_window : {f : Fault} (r : SheetRow) (rest : List SheetRow) → byte_at bs at ≡ 17 → rs ≡ r ∷ rest → length r.windows < 4 → first_broken (window_rules bs at) ≡ Some f → Faulty bs at rs f

-- what the command at an offset comes to, after the rows read so far: other rows, or its first fault
abbrev pub CommandOutcome : List ℕ → ℕ → List SheetRow → List SheetRow → Result (Unit {0}) Fault → Type 0
CommandOutcome bs at rs rs' r = MatchResult r (λ _. Reads bs at rs rs') (λ f. Faulty bs at rs f)

-- what a sheet comes to: its rows, or one fault
abbrev pub Outcome : Type 0
Outcome = Result (List SheetRow) Fault

-- the bytes from an offset on are judged, after the rows read so far
pub data Judged (bs : List ℕ) : ℕ → List SheetRow → Outcome → Type 0 where
  goes_on : {at : ℕ} {rs rs' : List SheetRow} {o : Outcome} → at < length bs → Reads bs at rs rs' → Judged bs (at + width_of (byte_at bs at)) rs' o → Judged bs at rs o
  stops : {at : ℕ} {rs : List SheetRow} {f : Fault} → at < length bs → Faulty bs at rs f → Judged bs at rs (Err f)
  ends : {at : ℕ} {rs : List SheetRow} → length bs ≤ at → newest_done rs ≡ true → Judged bs at rs (Ok (reverse rs))
  ends_empty : {at p : ℕ} {rs : List SheetRow} → length bs ≤ at → newest_done rs ≡ false → p + 7 ≡ at → Judged bs at rs (Err (EmptyRow p))

-- The sheet: its length is judged first, and then its bytes.
pub data SheetOutcome (bs : List ℕ) : Outcome → Type 0 where
  too_long : 4096 < length bs → SheetOutcome bs (Err TooLong)
  by_bytes : {o : Outcome} → length bs ≤ 4096 → Judged bs 0 [] o → SheetOutcome bs o
