-- Counting the elements of a list that pass a test. Assumes nothing.
use Rattle.std.proofs.Common.{◌≡◌, ◌+◌, Bool, true, false, cond, not, List, [], ◌∷◌, count_by, arith}
use Rattle.std.specs.List.{AllByRecursion}
use Rattle.std.proofs.lemmas.List.Sums.{sum_by-cons}

pub count_cons : {X : Type 0} (f : X → Bool) (x : X) (xs : List X) → count_by f (x ∷ xs) ≡ cond (f x) 1 0 + count_by f xs
count_cons f x xs = sum_by-cons (λ x. cond (f x) 1 0) x xs

-- none passes if each fails
pub none_passes : {X : Type 0} (f : X → Bool) (xs : List X) → AllByRecursion (λ x. f x ≡ false) xs → count_by f xs ≡ 0
none_passes f [] a = omega arith
none_passes f (x ∷ xs) a = let h = none_passes f xs a.1 in let c = count_cons f x xs in let z = a.0 in grind arith

-- all pass if none fails
pub all_pass : {X : Type 0} (f : X → Bool) (xs : List X) → count_by (λ x. not (f x)) xs ≡ 0 → AllByRecursion (λ x. f x ≡ true) xs
all_pass f [] n = tt
all_pass f (x ∷ xs) n = let c = count_cons (λ x. not (f x)) x xs in (grind arith, all_pass f xs (grind arith))

-- each fails if none passes
pub all_fail : {X : Type 0} (f : X → Bool) (xs : List X) → count_by f xs ≡ 0 → AllByRecursion (λ x. f x ≡ false) xs
all_fail f [] n = tt
all_fail f (x ∷ xs) n = let c = count_cons f x xs in (grind arith, all_fail f xs (grind arith))
