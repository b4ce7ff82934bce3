-- A sheet that is accepted is the encoding of its rows, and these keep every rule. Assumes nothing.
use Rattle.std.proofs.Common.{◌≡◌, ℕ, ◌+◌, ◌<◌, ◌≤◌, Bool, true, cond, ◌&&◌, eqb, leb, List, [], ◌∷◌, ◌++◌, reverse, length, drop, None, Ok, sym, refl, ap, ◌∙◌, append_assoc, add-zero, add_assoc, arith, lit≤}
use mathlib.Core.List.{reverse_aux}
use Rattle.std.proofs.lemmas.List.{drop_all, length-reverse, length_push}
use Rattle.std.proofs.lemmas.Bool.{and_parts, and_from, le-leb}
use Rattle.std.proofs.lemmas.Bool.Decides.{nat_tests}
use Rattle.orc.specs.Meaning.{Window}
use Rattle.formats.specs.Operands.{byte_at, Bytes, first_broken}
use Rattle.formats.specs.Widths.{width_of}
use Rattle.sheets.specs.Format.{SheetRow, window_bytes, windows_bytes, row_bytes, sheet_bytes, every, sound_window, sound_so_far, says_something, sound_row, sound_sheet, row_at, row_rules, window_at, window_rules, with_window, newest_done, Reads, reads_row, reads_window, Judged, goes_on, ends, SheetOutcome, by_bytes}
use Rattle.formats.proofs.Left.{byte_by_byte, two_back, four_back}

-- the rows read so far, newest first, keep every rule, but the newest may yet say nothing
abbrev sound_rows : List SheetRow → Bool
sound_rows [] = true
sound_rows (r ∷ rs) = sound_so_far r && every sound_row rs

record Sound (rs : List SheetRow) : Type 0 where
  few : length rs ≤ 64
  sound : sound_rows rs ≡ true

sound_whole : (rs : List SheetRow) → newest_done rs ≡ true → sound_rows rs ≡ true → every sound_row rs ≡ true
sound_whole [] done sound = refl
sound_whole (r ∷ rs) done sound = let p = and_parts (sound_so_far r) (every sound_row rs) sound in and_from (sound_row r) (every sound_row rs) (and_from (sound_so_far r) (says_something r) p.0 done) p.1

every_push : {X : Type 0} (f : X → Bool) (xs : List X) (x : X) → every f xs ≡ true → f x ≡ true → every f (xs ++ (x ∷ [])) ≡ true
every_push f [] x all here = and_from (f x) true here refl
every_push f (y ∷ xs) x all here = let p = and_parts (f y) (every f xs) all in and_from (f y) (every f (xs ++ (x ∷ []))) p.0 (every_push f xs x p.1 here)

every_reverse : {X : Type 0} (f : X → Bool) (xs ys : List X) → every f xs ≡ true → every f ys ≡ true → every f (reverse_aux xs ys) ≡ true
every_reverse f [] ys all all' = all'
every_reverse f (x ∷ xs) ys all all' = let p = and_parts (f x) (every f xs) all in every_reverse f xs (x ∷ ys) p.1 (and_from (f x) (every f ys) p.0 all')

sound_with_window : (r : SheetRow) (w : Window) → sound_so_far r ≡ true → length r.windows < 4 → sound_window w ≡ true → sound_so_far (with_window r w) ≡ true
sound_with_window r w sound few one = let all = every_push sound_window r.windows w in let n = length_push r.windows w in grind (arith, nat_tests)

-- the bytes of the rows read so far
abbrev bytes_so_far : List SheetRow → List ℕ
bytes_so_far [] = []
bytes_so_far (r ∷ rs) = bytes_so_far rs ++ row_bytes r

bytes_in_order : (rs rest : List SheetRow) → sheet_bytes (reverse_aux rs rest) ≡ bytes_so_far rs ++ sheet_bytes rest
unfolding sheet_bytes
bytes_in_order [] rest = refl
bytes_in_order (r ∷ rs) rest = bytes_in_order rs (r ∷ rest) ∙ sym (append_assoc (bytes_so_far rs) (row_bytes r) (sheet_bytes rest))

windows_bytes_push : (ws : List Window) (w : Window) → windows_bytes (ws ++ (w ∷ [])) ≡ windows_bytes ws ++ window_bytes w
windows_bytes_push [] w = refl
windows_bytes_push (v ∷ ws) w = ap (λ l. window_bytes v ++ l) (windows_bytes_push ws w)

module _ (bs : List ℕ) (bytes : Bytes bs) where
  -- a command that is read keeps the rules, and is written as it stood
  row_sound : (at : ℕ) → first_broken (row_rules bs at) ≡ None → sound_so_far (row_at bs at) ≡ true
  row_sound at kept = grind (arith, nat_tests)

  row_back : (at : ℕ) → byte_at bs at ≡ 16 → first_broken (row_rules bs at) ≡ None → row_bytes (row_at bs at) ++ drop (at + 7) bs ≡ drop at bs
  row_back at b kept =
      let within : at + 7 ≤ length bs = grind (arith, nat_tests) in
      let silence : cond (eqb (byte_at bs (at + 6)) 1) 1 0 ≡ byte_at bs (at + 6) = grind (arith, nat_tests) in
      cc (byte_by_byte bs at 7 within, two_back bs bytes (at + 2), two_back bs bytes (at + 4), add-zero at, add_assoc at 2 1, add_assoc at 4 1)

  window_sound : (at : ℕ) → first_broken (window_rules bs at) ≡ None → sound_window (window_at bs at) ≡ true
  window_sound at kept = grind (arith, nat_tests)

  window_back : (at : ℕ) → byte_at bs at ≡ 17 → first_broken (window_rules bs at) ≡ None → window_bytes (window_at bs at) ++ drop (at + 13) bs ≡ drop at bs
  window_back at b kept =
      let within : at + 13 ≤ length bs = grind (arith, nat_tests) in
      cc (byte_by_byte bs at 13 within, four_back bs bytes (at + 1), four_back bs bytes (at + 5), two_back bs bytes (at + 9), two_back bs bytes (at + 11), add-zero at, add_assoc at 1 1, add_assoc at 1 2, add_assoc at 1 3, add_assoc at 5 1, add_assoc at 5 2, add_assoc at 5 3, add_assoc at 9 1, add_assoc at 11 1)

  read_sound : {at : ℕ} {rs rs' : List SheetRow} → Reads bs at rs rs' → Sound rs → Sound rs'
  read_sound {at} {rs} (reads_row _ done few kept made) before =
      rw made (record { few = few; sound = and_from (sound_so_far (row_at bs at)) (every sound_row rs) (row_sound at kept) (sound_whole rs done before.sound) })
  read_sound {at} (reads_window r rest _ is few kept made) before =
      let w = window_at bs at in
      let was : Sound (r ∷ rest) = rw is at before in
      let p = and_parts (sound_so_far r) (every sound_row rest) was.sound in
      rw made (record { few = was.few; sound = and_from (sound_so_far (with_window r w)) (every sound_row rest) (sound_with_window r w p.0 few (window_sound at kept)) p.1 })

  read_back : {at : ℕ} {rs rs' : List SheetRow} → Reads bs at rs rs' → bytes_so_far rs' ++ drop (at + width_of (byte_at bs at)) bs ≡ bytes_so_far rs ++ drop at bs
  read_back {at} {rs} (reads_row b _ _ kept made) = rw (made, b, append_assoc) (ap (λ l. bytes_so_far rs ++ l) (row_back at b kept))
  read_back {at} (reads_window r rest b is _ kept made) = rw (made, is, b, windows_bytes_push) (simp append_assoc (ap (λ l. bytes_so_far rest ++ (row_bytes r ++ l)) (window_back at b kept)))

  judged_sound : {at : ℕ} {rs rows : List SheetRow} → Judged bs at rs (Ok rows) → Sound rs → sound_sheet rows ≡ true
  unfolding sound_sheet
  judged_sound (goes_on _ reads rest) before = judged_sound rest (read_sound reads before)
  judged_sound (ends {rs = rs} _ done) before = and_from (leb (length (reverse rs)) 64) (every sound_row (reverse rs)) (le-leb (length (reverse rs)) 64 (simp length-reverse before.few)) (every_reverse sound_row rs [] (sound_whole rs done before.sound) refl)

  judged_back : {at : ℕ} {rs rows : List SheetRow} → Judged bs at rs (Ok rows) → sheet_bytes rows ≡ bytes_so_far rs ++ drop at bs
  unfolding sheet_bytes
  judged_back (goes_on _ reads rest) = judged_back rest ∙ read_back reads
  judged_back (ends {at} {rs} past _) = bytes_in_order rs [] ∙ ap (λ l. bytes_so_far rs ++ l) (sym (drop_all at bs past))

  pub decoded : {rows : List SheetRow} → SheetOutcome bs (Ok rows) → (sound_sheet rows ≡ true) × (bs ≡ sheet_bytes rows)
  decoded (by_bytes _ judged) = (judged_sound judged (record { few = lit≤ tt; sound = refl }), sym (judged_back judged))
