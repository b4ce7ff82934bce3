-- That the meanings of a sheet and of a pair keep the ranges and laws. Assumes nothing.
use Rattle.std.specs.Prelude.{◌≡◌, ℕ, ◌-◌, true, false, cond, List, [], ◌∷◌, length, nat_le, nat_lt, refl}
use Rattle.std.proofs.Common.{arith}
use Rattle.std.specs.List.{AllByRecursion}
use Rattle.std.proofs.lemmas.Bool.{and_parts, leb-true}
use Rattle.orc.specs.Meaning.{Window, Handle, Meaning, known, unknown, some, SoundWindow, SoundHandle, comes_to_something, Lawful}
use Rattle.orc.specs.Local.{never}
use Rattle.orc.specs.Lawful.{by_sites, at_site, either, unknown_site, never_sound}
use Rattle.sheets.specs.Format.{SheetRow, every, sound_window, sound_so_far, says_something, sound_row, sound_sheet}
use Rattle.hosts.specs.Meanings.{names, holds, row_handle, sheet_handle, sheet_meaning, pair_meaning}

pub pair_lawful : (a b : Meaning) (n : ℕ) → Lawful a → Lawful b → Lawful (pair_meaning a b n)
pair_lawful a b n p q = by_sites (pair_meaning a b n) (λ s. either (nat_lt s n) (a s) (b (s - n)) (at_site a p s) (at_site b q (s - n)))

-- what the tests of a sheet's rows say, one by one
window_is_sound : (w : Window) → sound_window w ≡ true → SoundWindow w
window_is_sound w t =
    let a = and_parts (nat_le w.earliest 4294967294) _ t in
    let b = and_parts (nat_le w.earliest w.latest) _ a.1 in
    let c = and_parts (nat_le w.latest 4294967295) _ b.1 in
    let d = and_parts (nat_le w.lowest w.highest) (nat_le w.highest 65535) c.1 in
    let first = leb-true w.earliest 4294967294 a.0 in
    record {
      ticks_ordered = leb-true w.earliest w.latest b.0;
      begins = omega arith;
      latest_fits = leb-true w.latest 4294967295 c.0;
      values_ordered = leb-true w.lowest w.highest d.0;
      highest_fits = leb-true w.highest 65535 d.1;
    }

windows_are_sound : (ws : List Window) → every sound_window ws ≡ true → AllByRecursion SoundWindow ws
windows_are_sound [] t = tt
windows_are_sound (w ∷ ws) t = let a = and_parts (sound_window w) (every sound_window ws) t in (window_is_sound w a.0, windows_are_sound ws a.1)

row_is_sound : (r : SheetRow) → sound_row r ≡ true → SoundHandle (row_handle r)
row_is_sound r t =
    let a = and_parts (sound_so_far r) (says_something r) t in
    let b = and_parts (nat_le r.site 27) _ a.0 in
    let c = and_parts (nat_le r.first r.last) _ b.1 in
    let d = and_parts (nat_le r.last 65535) _ c.1 in
    let e = and_parts (nat_le (length r.windows) 4) (every sound_window r.windows) d.1 in
    record { few = leb-true (length r.windows) 4 e.0; sound = windows_are_sound r.windows e.1 }

row_answers : (r : SheetRow) → sound_row r ≡ true → comes_to_something (row_handle r) ≡ true
row_answers r t = (and_parts (sound_so_far r) (says_something r) t).1

-- what holds of silence without a window and of each row holds of the handle that the rows give
of_handle : (P : Handle → Type 0) → P never → ((r : SheetRow) → sound_row r ≡ true → P (row_handle r)) → (rs : List SheetRow) → every sound_row rs ≡ true → (s v : ℕ) → P (sheet_handle rs s v)
of_handle P none row [] t s v = none
of_handle P none row (r ∷ rs) t s v =
    let a = and_parts (sound_row r) (every sound_row rs) t in
    let rest = of_handle P none row rs a.1 s v in
    elim (holds s v r) as (λ b. P (cond b (row_handle r) (sheet_handle rs s v))) [ true ↦ row r a.0 | false ↦ rest ]

pub sheet_lawful : (rs : List SheetRow) → sound_sheet rs ≡ true → Lawful (sheet_meaning rs)
unfolding sound_sheet
sheet_lawful rs t =
    let sound = (and_parts (nat_le (length rs) 64) (every sound_row rs) t).1 in
    by_sites (sheet_meaning rs) (λ s. either (some (names s) rs) (known (sheet_handle rs s)) unknown
    (record {
      ranges = λ v fits. of_handle SoundHandle never_sound row_is_sound rs sound s v;
      answers = λ v fits is. of_handle (λ h. comes_to_something h ≡ true) refl row_answers rs sound s v;
    }) unknown_site)
