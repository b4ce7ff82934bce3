-- Texts that are written piece by piece. Assumes nothing.
use Rattle.std.proofs.Common.{◌≡◌, ℕ, suc, zero, ◌+◌, ◌<◌, ◌≤◌, List, [], ◌∷◌, ◌++◌, length, get_or, take, map, Some, sym, ap, ◌∙◌, append-nil, append_assoc, arith}
use Rattle.std.proofs.lemmas.List.{take_more, flat_map_more, take_all, map-append}
use Rattle.std.proofs.lemmas.List.Concat.{flat_map-append}
use Rattle.std.proofs.lemmas.Option.{same_Some, none-some}
use Rattle.std.specs.List.{flat_map, range_with_len}
use Rattle.journals.specs.Lines.{call_line, call_lines}
use Rattle.journals.specs.Journals.{pair_of}
use Rattle.journals.specs.declared.line.CallLine.{CallLine}
use Rattle.orc.specs.Expressions.{entry}

-- the number behind a number
next : (n : ℕ) → suc n ≡ n + 1
next n = omega arith

module _ {X : Type 0} (f : X → List ℕ) where
  -- the piece of one item more
  pub one_more : (xs : List X) (i : ℕ) (d : X) → i < length xs → flat_map f (take i xs) ++ f (get_or xs i d) ≡ flat_map f (take (i + 1) xs)
  one_more xs i d within = flat_map_more f [] (take i xs) (get_or xs i d) ∙ ap (flat_map f) (sym (take_more xs i d within))

  -- all pieces
  pub all_written : (xs : List X) (i : ℕ) → length xs ≤ i → flat_map f (take i xs) ≡ flat_map f xs
  all_written xs i past = ap (flat_map f) (take_all i xs past)

  -- the piece of the item at a number
  entry_next : (xs : List X) (i : ℕ) (x : X) → Some x ≡ entry xs i → flat_map f (take i xs) ++ f x ≡ flat_map f (take (suc i) xs)
  entry_next [] i x is = absurd (none-some x (sym is))
  entry_next (y ∷ ys) zero x is = ap f (same_Some x y is) ∙ sym (append-nil (f y))
  entry_next (y ∷ ys) (suc i) x is = append_assoc (f y) (flat_map f (take i ys)) (f x) ∙ ap (λ l. f y ++ l) (entry_next ys i x is)

  pub entry_more : (xs : List X) (i : ℕ) (x : X) → Some x ≡ entry xs i → flat_map f (take i xs) ++ f x ≡ flat_map f (take (i + 1) xs)
  entry_more xs i x is = entry_next xs i x is ∙ ap (λ k. flat_map f (take k xs)) (next i)

-- one number more
numbers_next : (a n j : ℕ) → a + n ≡ j → range_with_len a (suc n) ≡ range_with_len a n ++ (j ∷ [])
numbers_next a zero j is = ap (λ x. x ∷ []) (omega (arith, is))
numbers_next a (suc n) j is = ap (λ l. a ∷ l) (numbers_next (a + 1) n j (omega (arith, is)))

pub number_more : (f : ℕ → List ℕ) (n : ℕ) → flat_map f (range_with_len 0 n) ++ f n ≡ flat_map f (range_with_len 0 (n + 1))
number_more f n =
    sym (
    ap (λ k. flat_map f (range_with_len 0 k)) (sym (next n)) ∙ ap (flat_map f) (numbers_next 0 n n (omega arith)) ∙ flat_map-append f (range_with_len 0 n) (n ∷ [])
    ∙ ap (λ l. flat_map f (range_with_len 0 n) ++ l) (append-nil (f n))
    )

-- the line of one call more
pub line_more : (ls : List CallLine) (i : ℕ) (d : CallLine) → i < length ls → call_lines (map pair_of (take i ls)) ++ call_line (get_or ls i d).call (get_or ls i d).response ≡ call_lines (map pair_of (take (i + 1) ls))
line_more ls i d within = sym (ap (λ xs. call_lines (map pair_of xs)) (take_more ls i d within) ∙ ap call_lines (map-append pair_of (take i ls) (get_or ls i d ∷ [])) ∙ flat_map-append (λ x. call_line x.0 x.1) (map pair_of (take i ls)) (pair_of (get_or ls i d) ∷ []) ∙ ap (λ l. call_lines (map pair_of (take i ls)) ++ l) (append-nil (call_line (get_or ls i d).call (get_or ls i d).response)))
