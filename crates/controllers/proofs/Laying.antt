-- A list that is laid over another, item by item. Assumes nothing.
use Rattle.std.proofs.Common.{◌≡◌, ℕ, ◌+◌, ◌<◌, ◌≤◌, List, [], ◌∷◌, ◌++◌, length, get_or, set, take, drop, map, zero, suc, Some, None, Option, MatchOption, refl, sym, ◌∙◌, ap, arith}
use Rattle.std.proofs.lemmas.List.{take_more, take_all, drop_more, length-take-le, append_assoc}
use Rattle.std.proofs.Math.Seq.{set-append_seam}
use Rattle.std.proofs.lemmas.Option.{none-some}
use Rattle.std.specs.Prelude.{unwrap_or}
use Rattle.std.specs.List.{range_with_len}
use Rattle.orc.specs.Expressions.{entry}

-- an item by its number
entry_past : {X : Type 0} (xs : List X) (i : ℕ) → entry xs i ≡ None → length xs ≤ i
entry_past [] i is = omega arith
entry_past (x ∷ xs) zero is = absurd (none-some x (sym is))
entry_past (x ∷ xs) (suc i) is = let p = entry_past xs i is in omega arith

entry_there : {X : Type 0} (xs : List X) (i : ℕ) (x : X) → entry xs i ≡ Some x → (i < length xs) × (get_or xs i x ≡ x)
entry_there [] i x is = absurd (none-some x is)
entry_there (y ∷ xs) zero x is = (omega arith, ap (λ o. unwrap_or o y) is)
entry_there (y ∷ xs) (suc i) x is = let p = entry_there xs i x is in (omega arith, p.1)

pub entry_range : {X : Type 0} (f : ℕ → X) (a n i : ℕ) → i < n → entry (map f (range_with_len a n)) i ≡ Some (f (a + i))
entry_range f a zero i within = absurd (omega arith)
entry_range f a (suc n) zero within = ap (λ k. Some (f k)) (omega arith)
entry_range f a (suc n) (suc i) within = entry_range f (a + 1) n i (omega arith) ∙ ap (λ k. Some (f k)) (omega arith)

pub entry_range_past : {X : Type 0} (f : ℕ → X) (a n i : ℕ) → n ≤ i → entry (map f (range_with_len a n)) i ≡ None
entry_range_past f a zero i past = refl
entry_range_past f a (suc n) zero past = absurd (omega arith)
entry_range_past f a (suc n) (suc i) past = entry_range_past f (a + 1) n i (omega arith)

-- the first i items of xs over ys
abbrev pub laid_to : {X : Type 0} → ℕ → List X → List X → List X
laid_to i xs ys = take i xs ++ drop (length (take i xs)) ys

-- one more, which is x
pub laid_one : {X : Type 0} (xs ys : List X) (i : ℕ) (x : X) → i < length xs → i < length ys → get_or xs i x ≡ x → set (laid_to i xs ys) i x ≡ laid_to (i + 1) xs ys
laid_one xs ys i x there room is =
    let short : length (take i xs) ≡ i = length-take-le i xs (omega arith) in
    let longer : take (i + 1) xs ≡ take i xs ++ (x ∷ []) = take_more xs i x there ∙ ap (λ z. take i xs ++ (z ∷ [])) is in
    let count : length (take (i + 1) xs) ≡ i + 1 = length-take-le (i + 1) xs (omega arith) in
    let here : drop i ys ≡ get_or ys i x ∷ drop (i + 1) ys = drop_more ys i x room in
    let so_far : laid_to i xs ys ≡ take i xs ++ (get_or ys i x ∷ drop (i + 1) ys) = ap (λ n. take i xs ++ drop n ys) short ∙ ap (λ l. take i xs ++ l) here in
    let written : set (laid_to i xs ys) i x ≡ take i xs ++ (x ∷ drop (i + 1) ys) =
    ap (λ l. set l i x) so_far ∙ (ap (λ n. set (take i xs ++ (get_or ys i x ∷ drop (i + 1) ys)) n x) (sym short) ∙ set-append_seam (take i xs) (get_or ys i x) (drop (i + 1) ys) x) in
    written ∙ (sym (append_assoc (take i xs) (x ∷ []) (drop (i + 1) ys)) ∙ (ap (λ l. l ++ drop (i + 1) ys) (sym longer) ∙ ap (λ n. take (i + 1) xs ++ drop n ys) (sym count)))

-- there are no more
pub laid_none : {X : Type 0} (xs ys : List X) (i : ℕ) → length xs ≤ i → laid_to i xs ys ≡ laid_to (i + 1) xs ys
laid_none xs ys i past = ap (λ l. l ++ drop (length l) ys) (take_all i xs past ∙ sym (take_all (i + 1) xs (omega arith)))

-- the next item, if there is one
pub laid_next : {X : Type 0} (xs ys zs zs' : List X) (i : ℕ) (r : Option X) → zs ≡ laid_to i xs ys → i < length ys → r ≡ entry xs i → MatchOption r (zs' ≡ zs) (λ x. zs' ≡ set zs i x) → zs' ≡ laid_to (i + 1) xs ys
laid_next xs ys zs zs' i None so_far room is stays = stays ∙ (so_far ∙ laid_none xs ys i (entry_past xs i (sym is)))
laid_next xs ys zs zs' i (Some x) so_far room is written =
    let there = entry_there xs i x (sym is) in
    written ∙ (ap (λ l. set l i x) so_far ∙ laid_one xs ys i x there.0 room there.1)
