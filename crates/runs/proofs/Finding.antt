-- The first element of a list that passes a test, and where the elements of joined lists stand. Assumes nothing.
use Rattle.std.proofs.Common.{◌≡◌, ℕ, zero, suc, ◌-◌, ◌<◌, ◌≤◌, Bool, true, false, cond, ◌⊎◌, List, [], ◌∷◌, ◌++◌, length, get_or, Some, None, count_by, filter, Option, sym, refl, ap, ◌∙◌, subst, inl, inr, arith, length-append}
use Rattle.std.specs.List.{ContainsAt as Has, AllByRecursion}
use Rattle.std.proofs.lemmas.List.{get_or_append_left, get_or-append_right, nil_from_length}
use Rattle.std.proofs.lemmas.List.Sums.{get_or-le-sum_by, length-filter}
use Rattle.std.proofs.lemmas.Bool.{cases_lt, both_ways}
use Rattle.runs.specs.Outcomes.{First, at_once, further_on}
use Rattle.runs.proofs.Counts.{count_cons}

-- the first that passes, if one does
unfoldable pub find : {X : Type 0} → (X → Bool) → List X → Option X
find f [] = None
find f (x ∷ xs) = cond (f x) (Some x) (find f xs)

-- an element of a list stands first or further on
has_cons : {X : Type 0} (x : X) (xs : List X) (y : X) → Has (x ∷ xs) y → (x ≡ y) ⊎ Has xs y
has_cons x xs y h = at h.0 h.1 h.2
  where
    at : (k : ℕ) → k < length (x ∷ xs) → ((d : _) → get_or (x ∷ xs) k d ≡ y) → (x ≡ y) ⊎ Has xs y
    at zero l q = inl (q x)
    at (suc k) l q = inr (k, omega arith, q)

-- an element of a joined list stands in one of the two
pub has_parts : {X : Type 0} (xs ys : List X) (x : X) → Has (xs ++ ys) x → Has xs x ⊎ Has ys x
has_parts xs ys x h =
    let n = length-append xs ys in
    elim (cases_lt h.0 (length xs)) [
      | inl a ↦ inl (h.0, a, λ d. sym (get_or_append_left xs ys d h.0 a) ∙ h.2 d)
      | inr a ↦ inr (h.0 - length xs, omega (arith, h.1), λ d. sym (get_or-append_right xs ys (length xs) h.0 d refl a) ∙ h.2 d)
    ]

-- what stands in a list and passes is counted
pub count_has : {X : Type 0} (f : X → Bool) (xs : List X) (x : X) → Has xs x → f x ≡ true → 1 ≤ count_by f xs
count_has f xs x h y =
    let below = get_or-le-sum_by (λ x. cond (f x) 1 0) xs h.0 x h.1 in
    let one : ◌≡◌ {A = ℕ} (cond (f (get_or xs h.0 x)) 1 0) 1 = cc (h.2 x) in
    omega arith

pub find_first : {X : Type 0} (f : X → Bool) {xs : List X} {x : X} → First f xs x → find f xs ≡ Some x
unfolding find
find_first f (at_once h) = rw h
find_first f (further_on h r) = rw h (find_first f r)

pub find_none : {X : Type 0} (f : X → Bool) (xs : List X) → AllByRecursion (λ x. f x ≡ false) xs → find f xs ≡ None
unfolding find
find_none f [] a = refl
find_none f (x ∷ xs) a = rw a.0 (find_none f xs a.1)

-- the one that passes, where no other does
pub kept_only : {X : Type 0} (f : X → Bool) (xs : List X) (x : X) → count_by f xs ≤ 1 → Has xs x → f x ≡ true → filter f xs ≡ x ∷ []
kept_only f [] x c h y = absurd (omega (arith, h.1))
kept_only f (z ∷ xs) x c h y = at (f z) refl (has_cons z xs x h) (λ c h. kept_only f xs x c h y)
  where
    at : (b : Bool) → f z ≡ b → (z ≡ x) ⊎ Has xs x → (count_by f xs ≤ 1 → Has xs x → filter f xs ≡ x ∷ []) → cond (f z) (z ∷ filter f xs) (filter f xs) ≡ x ∷ []
    at true e p rest =
        let n = count_cons f z xs in
        let one : ◌≡◌ {A = ℕ} (cond (f z) 1 0) 1 = rw e in
        let none = nil_from_length (filter f xs) (length-filter f xs ∙ omega arith) in
        elim p [ inl q ↦ rw (e, none) (ap (λ v. v ∷ []) q) | inr q ↦ absurd (omega (arith, count_has f xs x q y)) ]
    at false e p rest =
        let n = count_cons f z xs in
        let zero-here : ◌≡◌ {A = ℕ} (cond (f z) 1 0) 0 = rw e in
        elim p [ inl q ↦ absurd (both_ways (f x) (subst (λ v. f v ≡ false) q e) y) | inr q ↦ rw e (rest (omega arith) q) ]

find_kept : {X : Type 0} (f : X → Bool) (xs : List X) {x : X} {ys : List X} → filter f xs ≡ x ∷ ys → find f xs ≡ Some x
unfolding find
find_kept f [] q = cc
find_kept f (z ∷ xs) {x} {ys} q = at (f z) q (find_kept f xs)
  where
    at : (b : Bool) → cond b (z ∷ filter f xs) (filter f xs) ≡ x ∷ ys → (filter f xs ≡ x ∷ ys → find f xs ≡ Some x) → cond b (Some z) (find f xs) ≡ Some x
    at true q rest = cc
    at false q rest = rest q

pub find_only : {X : Type 0} (f : X → Bool) (xs : List X) (x : X) → count_by f xs ≤ 1 → Has xs x → f x ≡ true → find f xs ≡ Some x
find_only f xs x c h y = find_kept f xs (kept_only f xs x c h y)

-- What is found passes, and it is the first; if nothing is found, none passes.
abbrev pub Found : {X : Type 0} → (X → Bool) → List X → Option X → Type 0
Found f xs None = AllByRecursion (λ x. f x ≡ false) xs
Found f xs (Some x) = First f xs x

found_cons : {X : Type 0} (f : X → Bool) (x : X) (xs : List X) (o : Option X) (b : Bool) → f x ≡ b → Found f xs o → Found f (x ∷ xs) (cond b (Some x) o)
found_cons f x xs o true e h = at_once e
found_cons f x xs None false e h = (e, h)
found_cons f x xs (Some y) false e h = further_on e h

pub found : {X : Type 0} (f : X → Bool) (xs : List X) → Found f xs (find f xs)
unfolding find
found f [] = tt
found f (x ∷ xs) = found_cons f x xs (find f xs) (f x) refl (found f xs)

pub first_passes : {X : Type 0} {f : X → Bool} {xs : List X} {x : X} → First f xs x → f x ≡ true
first_passes (at_once h) = h
first_passes (further_on h r) = first_passes r

pub first_has : {X : Type 0} {f : X → Bool} {xs : List X} {x : X} → First f xs x → Has xs x
first_has (at_once h) = (0, omega arith, λ d. refl)
first_has (further_on h r) = let q = first_has r in (suc q.0, omega (arith, q.1), q.2)
