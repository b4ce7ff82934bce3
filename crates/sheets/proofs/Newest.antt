-- The last element of a list, which is the newest. Assumes nothing.
use Rattle.std.proofs.Common.{◌≡◌, ℕ, ◌+◌, ◌-◌, Bool, true, List, [], ◌∷◌, ◌++◌, map, reverse, length, take, take_all, Some, None, Option, MatchOption, sym, refl, ap, ◌∙◌, arith}
use Rattle.std.specs.List.{slice_get}
use Rattle.std.proofs.lemmas.Option.{none-some, slice_get_within, get_or_from_slice_get, slice_get-get_or}
use Rattle.std.proofs.lemmas.List.{reverse-append, take_more, map_push, length-map, length-reverse}
use Rattle.fixed.specs.declared.list.FixedList.{FixedList}
use Rattle.fixed.specs.Items.{items_of, with_last}
use Rattle.sheets.specs.Format.{SheetRow, says_something, newest_done}
use Rattle.sheets.specs.Rows.{row_of, rows_of, newest_first}
use Rattle.sheets.specs.declared.row.Row.{Row}

-- the last element, if there is one, and those before it
abbrev pub last_of : {X : Type 0} → List X → Option X
last_of xs = slice_get xs (length xs - 1)

abbrev pub before : {X : Type 0} → List X → List X
before xs = take (length xs - 1) xs

split : {X : Type 0} (xs : List X) (x : X) → last_of xs ≡ Some x → xs ≡ before xs ++ (x ∷ [])
split xs x is =
    let within = slice_get_within xs (length xs - 1) x is in
    let got = get_or_from_slice_get xs (length xs - 1) x x is in
    let all : length xs - 1 + 1 ≡ length xs = omega arith in
    sym (take_all (length xs) xs (omega arith)) ∙ ap (λ n. take n xs) (sym all) ∙ take_more xs (length xs - 1) x within ∙ ap (λ y. before xs ++ (y ∷ [])) got

pub none_shown : {X : Type 0} (xs : List X) → last_of xs ≡ None → xs ≡ []
none_shown [] none = refl
none_shown (x ∷ xs) none = absurd (none-some _ (sym none ∙ slice_get-get_or (x ∷ xs) (length (x ∷ xs) - 1) x (omega arith)))

with_last_is : {X : Type 0} (xs : List X) (x y : X) → last_of xs ≡ Some x → with_last y xs ≡ before xs ++ (y ∷ [])
with_last_is [] x y is = cc
with_last_is (z ∷ xs) x y is = let whole : length (z ∷ xs) - 1 ≡ length xs = omega arith in rw whole refl

module _ {X Y : Type 0} (f : X → Y) where
  abbrev pub latest_first : List X → List Y
  latest_first xs = reverse (map f xs)

  pub latest_pushed : (xs : List X) (x : X) → latest_first (xs ++ (x ∷ [])) ≡ f x ∷ latest_first xs
  latest_pushed xs x = ap reverse (map_push f xs x) ∙ reverse-append (map f xs) (f x ∷ [])

  pub latest_shown : (xs : List X) (x : X) → last_of xs ≡ Some x → latest_first xs ≡ f x ∷ latest_first (before xs)
  latest_shown xs x is = ap latest_first (split xs x is) ∙ latest_pushed (before xs) x

  pub latest_replaced : (xs : List X) (x y : X) → last_of xs ≡ Some x → latest_first (with_last y xs) ≡ f y ∷ latest_first (before xs)
  latest_replaced xs x y is = ap latest_first (with_last_is xs x y is) ∙ latest_pushed (before xs) y

-- the same of the rows read so far
module _ {N : ℕ} (rows : FixedList Row N) where
  pub counted : length (newest_first rows) ≡ length (items_of rows)
  unfolding newest_first
  counted = length-reverse (rows_of rows) ∙ length-map (items_of rows) row_of

  pub row_added : (new : FixedList Row N) (r : Row) → items_of new ≡ items_of rows ++ (r ∷ []) → newest_first new ≡ row_of r ∷ newest_first rows
  unfolding newest_first
  row_added new r is = ap (latest_first row_of) is ∙ latest_pushed row_of (items_of rows) r

  -- what stands behind the newest row
  pub behind : List SheetRow
  behind = latest_first row_of (before (items_of rows))

  pub newest_shown : (r : Row) → Some r ≡ last_of (items_of rows) → newest_first rows ≡ row_of r ∷ behind
  unfolding newest_first behind
  newest_shown r is = latest_shown row_of (items_of rows) r (sym is)

  pub none_read : None ≡ last_of (items_of rows) → newest_first rows ≡ []
  unfolding newest_first
  none_read is = ap (latest_first row_of) (none_shown (items_of rows) (sym is))

  pub newest_replaced : (new : FixedList Row N) (r s : Row) → Some r ≡ last_of (items_of rows) → items_of new ≡ with_last s (items_of rows) → newest_first new ≡ row_of s ∷ behind
  unfolding newest_first behind
  newest_replaced new r s is made = ap (latest_first row_of) made ∙ latest_replaced row_of (items_of rows) r s (sym is)

  -- whether the newest row says something, if there is one
  pub done_shown : (last : Option Row) (done : Bool) → last ≡ last_of (items_of rows) → MatchOption last (done ≡ true) (λ r. done ≡ says_something (row_of r)) → done ≡ newest_done (newest_first rows)
  done_shown None done is says = says ∙ sym (ap newest_done (none_read is))
  done_shown (Some r) done is says = says ∙ sym (ap newest_done (newest_shown r is))
