-- The encoding of rows that keep every rule is accepted, with these rows. Assumes nothing.
use Rattle.std.proofs.Common.{◌≡◌, ℕ, ◌+◌, ◌*◌, ◌≤◌, true, eqb, leb, List, [], ◌∷◌, ◌++◌, length, drop, None, Ok, refl, ◌∙◌, append_assoc, append-nil, arith}
use mathlib.Core.List.{reverse_aux}
use Rattle.std.proofs.lemmas.List.{length-append}
use Rattle.std.proofs.lemmas.Bool.{and_parts, leb-true}
use Rattle.std.proofs.lemmas.Bool.Decides.{nat_tests}
use Rattle.orc.specs.Meaning.{Window}
use Rattle.formats.proofs.Left.{byte_left, two_left, four_left, length_left, drop_left, first_left}
use Rattle.formats.specs.Operands.{byte_at, two_at, four_at, first_broken}
use Rattle.formats.specs.Widths.{width_of}
use Rattle.sheets.specs.Format.{SheetRow, window_bytes, windows_bytes, row_bytes, sheet_bytes, every, sound_window, sound_so_far, says_something, sound_row, sound_sheet, row_at, row_rules, window_at, window_rules, newest_done, Reads, reads_row, reads_window, Outcome, Judged, goes_on, ends, SheetOutcome, by_bytes}

-- a row with these windows in place of its own
abbrev holding : SheetRow → List Window → SheetRow
holding r ws = record { site = r.site; first = r.first; last = r.last; silent = r.silent; windows = ws }

sound_windows : (r : SheetRow) → sound_so_far r ≡ true → (length r.windows ≤ 4) × (every sound_window r.windows ≡ true)
sound_windows r sound = (grind (arith, nat_tests), grind (arith, nat_tests))

-- a row, still without its windows, and a window are read where their bytes stand, and break no rule
module _ (bs : List ℕ) (at : ℕ) (rest : List ℕ) where
  row_there : (r : SheetRow) → sound_so_far r ≡ true → drop at bs ≡ row_bytes (holding r []) ++ rest → (first_broken (row_rules bs at) ≡ None) × (row_at bs at ≡ holding r [])
  row_there r sound left =
      let long = length_left bs at left in
      let site = byte_left bs at left 1 in
      let first : two_at bs (at + 2) ≡ r.first = two_left bs at left 2 ∙ omega arith in
      let last : two_at bs (at + 4) ≡ r.last = two_left bs at left 4 ∙ omega arith in
      let silence = byte_left bs at left 6 in
      let silent : eqb (byte_at bs (at + 6)) 1 ≡ r.silent = grind (arith, nat_tests) in
      (grind (arith, nat_tests), cc)

  window_there : (w : Window) → sound_window w ≡ true → drop at bs ≡ window_bytes w ++ rest → (first_broken (window_rules bs at) ≡ None) × (window_at bs at ≡ w)
  window_there w sound left =
      let long = length_left bs at left in
      let earliest : four_at bs (at + 1) ≡ w.earliest = four_left bs at left 1 ∙ omega arith in
      let latest : four_at bs (at + 5) ≡ w.latest = four_left bs at left 5 ∙ omega arith in
      let lowest : two_at bs (at + 9) ≡ w.lowest = two_left bs at left 9 ∙ omega arith in
      let highest : two_at bs (at + 11) ≡ w.highest = two_left bs at left 11 ∙ omega arith in
      (grind (arith, nat_tests), λ i. record { earliest = earliest i; latest = latest i; lowest = lowest i; highest = highest i })

module _ (bs : List ℕ) where
  -- over the command byte b at an offset
  goes_over : {at : ℕ} {rs rs' : List SheetRow} {o : Outcome} {b : ℕ} {l : List ℕ} → drop at bs ≡ b ∷ l → (byte_at bs at ≡ b → Reads bs at rs rs') → Judged bs (at + width_of b) rs' o → Judged bs at rs o
  goes_over {at} {b} left reads rest =
      let long = length_left bs at left in
      let here : byte_at bs at ≡ b = first_left bs at left in
      goes_on (omega arith) (reads here) (rw here rest)

  -- over all the windows that a row has yet to be given
  windows_judged : (r : SheetRow) (done : List SheetRow) (rest : List ℕ) (o : Outcome) (had ws : List Window) (at : ℕ)
      → every sound_window ws ≡ true → length had + length ws ≤ 4 → drop at bs ≡ windows_bytes ws ++ rest
      → ((at' : ℕ) → drop at' bs ≡ rest → Judged bs at' (holding r (had ++ ws) ∷ done) o) → Judged bs at (holding r had ∷ done) o
  windows_judged r done rest o had [] at sound few left next = rw append-nil at (next at left)
  windows_judged r done rest o had (w ∷ ws) at sound few left next =
      let p = and_parts (sound_window w) (every sound_window ws) sound in
      let there = window_there bs at (windows_bytes ws ++ rest) w p.0 left in
      goes_over left (λ b. reads_window (holding r had) done b refl (omega arith) there.0 (rw there.1))
      (windows_judged r done rest o (had ++ (w ∷ [])) ws (at + 13) p.1 (simp length-append (omega arith)) (drop_left bs at left 13) (rw append_assoc next))

  rows_judged : (rs done : List SheetRow) (at : ℕ) → every sound_row rs ≡ true → newest_done done ≡ true → length done + length rs ≤ 64 → drop at bs ≡ sheet_bytes rs → Judged bs at done (Ok (reverse_aux done rs))
  unfolding sheet_bytes
  rows_judged [] done at sound whole few left = let long = length_left bs at left in ends (omega arith) whole
  rows_judged (r ∷ rs) done at sound whole few left =
      let p = and_parts (sound_row r) (every sound_row rs) sound in
      let q = and_parts (sound_so_far r) (says_something r) p.0 in
      let windows = sound_windows r q.0 in
      let there = row_there bs at (windows_bytes r.windows ++ sheet_bytes rs) r q.0 left in
      goes_over left (λ b. reads_row b whole (omega arith) there.0 (rw there.1))
      (windows_judged r done (sheet_bytes rs) _ [] r.windows (at + 7) windows.1 (omega arith) (drop_left bs at left 7)
      (λ at' left'. rows_judged rs (r ∷ done) at' p.1 q.1 (omega arith) left'))

-- rows that keep every rule fit into a sheet
windows_length : (ws : List Window) → length (windows_bytes ws) ≡ 13 * length ws
windows_length [] = refl
windows_length (w ∷ ws) = let rest = windows_length ws in omega arith

sheet_length : (rs : List SheetRow) → every sound_row rs ≡ true → length (sheet_bytes rs) ≤ 59 * length rs
unfolding sheet_bytes
sheet_length [] sound = omega arith
sheet_length (r ∷ rs) sound =
    let p = and_parts (sound_row r) (every sound_row rs) sound in
    let few = sound_windows r (and_parts (sound_so_far r) (says_something r) p.0).0 in
    let windows = windows_length r.windows in
    let rest = sheet_length rs p.1 in
    simp length-append (omega arith)

pub encoded : (bs : List ℕ) (rows : List SheetRow) → (sound_sheet rows ≡ true) × (bs ≡ sheet_bytes rows) → SheetOutcome bs (Ok rows)
unfolding sound_sheet
encoded bs rows (sound, is) =
    let p = and_parts (leb (length rows) 64) (every sound_row rows) sound in
    let few = leb-true (length rows) 64 p.0 in
    let fits = sheet_length rows p.1 in
    by_bytes (rw is (omega arith)) (rows_judged bs rows [] 0 p.1 refl (omega arith) is)
