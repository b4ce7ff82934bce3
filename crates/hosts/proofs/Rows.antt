-- Searches over the rows of a sheet, and elements of a list by their number. Assumes nothing.
use Rattle.std.proofs.Common.{◌≡◌, ℕ, Bool, true, false, cond, ◌||◌, List, [], ◌∷◌, map, Some, None, Option, sym, refl, ap, ◌∙◌, subst}
use Rattle.std.specs.Option.{MatchOption, option_map}
use Rattle.std.specs.List.{find, list_any}
use Rattle.std.proofs.lemmas.Bool.{or_left, or_right, and_parts, cond-true, cond-false, cond_both}
use Rattle.std.specs.Borrow.{Bor}
use Rattle.orc.specs.Local.{never}
use Rattle.orc.specs.Meaning.{handle, handle_of, is_known, some, unknown, known}
use Rattle.sheets.specs.Format.{SheetRow}
use Rattle.sheets.specs.Rows.{row_of}
use Rattle.sheets.specs.declared.row.Row.{Row}
use Rattle.hosts.specs.Meanings.{names, holds, row_handle, sheet_handle, sheet_meaning}

-- a row names the site: what the rows say is what the sheet means
pub at_known : (rs : List SheetRow) (s v : ℕ) → some (names s) rs ≡ true → handle (sheet_meaning rs) s v ≡ sheet_handle rs s v
at_known rs s v t = ap (λ b. handle_of (cond b (known (sheet_handle rs s)) unknown) v) t

module _ (s : ℕ) where
  -- whether a row names the site
  pub named : (rows : List Row) → is_known (sheet_meaning (map row_of rows) s) ≡ list_any (λ r. names s (row_of r)) rows
  named rows = elim (some (names s) (map row_of rows)) as (λ b. is_known (cond b (known (sheet_handle (map row_of rows) s)) unknown) ≡ b) [ true ↦ refl | false ↦ refl ] ∙ same rows
    where
      same : (rows : List Row) → some (names s) (map row_of rows) ≡ list_any (λ r. names s (row_of r)) rows
      same [] = refl
      same (r ∷ rows) = ap (λ b. names s (row_of r) || b) (same rows)

  module _ (v : ℕ) where
    abbrev pub test : Row → Bool
    test r = holds s v (row_of r)

    abbrev Found : List Row → Option Row → Type 0
    Found rows o = MatchOption o (sheet_handle (map row_of rows) s v ≡ never) (λ r. (some (names s) (map row_of rows) ≡ true) × (sheet_handle (map row_of rows) s v ≡ row_handle (row_of r)))

    -- a row that does not hold the value changes nothing of what is found behind it
    behind : (r : Row) (rows : List Row) (o : Option Row) → test r ≡ false → Found rows o → Found (r ∷ rows) o
    behind r rows None past found = cond-false (test r) _ _ past ∙ found
    behind r rows (Some x) past found = (or_right (names s (row_of r)) _ found.0, cond-false (test r) _ _ past ∙ found.1)

    first_held : (rows : List Row) → Found rows (find test rows)
    first_held [] = refl
    first_held (r ∷ rows) =
        cond_both (test r) (Some r) (find test rows) (Found (r ∷ rows))
        (λ here. (or_left _ _ (and_parts (names s (row_of r)) _ here).0, cond-true (test r) _ _ here))
        (λ past. behind r rows (find test rows) past (first_held rows))

    -- the first row that holds the value gives the handle
    pub held : (rows : List Row) (o : Option (Bor Row)) → option_map (λ r. r.now) o ≡ find test rows → MatchOption o (sheet_handle (map row_of rows) s v ≡ never) (λ r. handle (sheet_meaning (map row_of rows)) s v ≡ row_handle (row_of r.now))
    held rows None is = subst (Found rows) (sym is) (first_held rows)
    held rows (Some r) is = let found = subst (Found rows) (sym is) (first_held rows) in at_known (map row_of rows) s v found.0 ∙ found.1
