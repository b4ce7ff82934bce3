-- The meaning of a sheet and of a pair of hosts; that of the local sites stands beside the language. Assumes nothing.
use Rattle.std.specs.Prelude.{ℕ, ◌-◌, Bool, cond, ◌&&◌, List, [], ◌∷◌, Ok, Err, ◌==◌, nat_le, nat_lt}
use Rattle.orc.specs.Meaning.{Handle, Meaning, unknown, known, some}
use Rattle.orc.specs.Local.{never}
use Rattle.sheets.specs.Format.{SheetRow, Outcome}

-- a row names a site, and holds a value of it
abbrev pub names : ℕ → SheetRow → Bool
names s r = r.site == s

abbrev pub holds : ℕ → ℕ → SheetRow → Bool
holds s v r = names s r && (nat_le r.first v && nat_le v r.last)

-- what a row says of the calls that it holds
abbrev pub row_handle : SheetRow → Handle
row_handle r = record { windows = r.windows; silent = r.silent }

-- the handle of a call of a site with a value: that of the first row that holds it, else silence and no window
abbrev pub sheet_handle : List SheetRow → ℕ → ℕ → Handle
sheet_handle [] s v = never
sheet_handle (r ∷ rs) s v = cond (holds s v r) (row_handle r) (sheet_handle rs s v)

-- a site is known if a row names it
abbrev pub sheet_meaning : List SheetRow → Meaning
sheet_meaning rs s = cond (some (names s) rs) (known (sheet_handle rs s)) unknown

-- a sheet that was refused knows no site
abbrev pub outcome_meaning : Outcome → Meaning
outcome_meaning (Ok rs) = sheet_meaning rs
outcome_meaning (Err f) = λ s. unknown

-- sites below the split are the first's, the others, less the split, the second's
abbrev pub pair_meaning : Meaning → Meaning → ℕ → Meaning
pair_meaning a b n s = cond (nat_lt s n) (a s) (b (s - n))
