-- The first of the scales that fits is the smallest of the series that does. Assumes nothing.
use Rattle.std.proofs.Common.{◌≡◌, ℕ, ◌*◌, ◌<◌, ◌≤◌, Bool, true, false, ◌||◌, eqb, ltb, leb, ◌⊎◌, List, [], ◌∷◌, Option, Some, find, unwrap_or, nat_lt, sym, refl, subst, inl, inr, ⊎_elim, arith}
use Rattle.std.proofs.lemmas.Bool.{eqb-true, leb-true, ltb-true, ltb-false, and_parts, or_cases, cond_both, both_ways}
use Rattle.std.specs.List.{AllByRecursion, list_any, list_all}
use Rattle.pictures.specs.Drawings.{Series, one, two, five, tenfold, Scale, first_fit}

-- the scales below the last, from the smallest on
abbrev pub scales : List ℕ
scales =
    1 ∷ 2 ∷ 5 ∷ 10 ∷ 20 ∷ 50 ∷ 100 ∷ 200 ∷ 500 ∷ 1000 ∷ 2000 ∷ 5000 ∷ 10000 ∷ 20000 ∷ 50000 ∷ 100000 ∷ 200000 ∷ 500000
    ∷ 1000000 ∷ 2000000 ∷ 5000000 ∷ 10000000 ∷ 20000000 ∷ 50000000 ∷ []

-- ten times a scale is one of them, or at least the last
abbrev goes_on : ℕ → Bool
goes_on n = list_any (eqb (10 * n)) scales || leb 100000000 (10 * n)

next : (n : ℕ) (xs : List ℕ) → list_any (eqb n) xs ≡ true → list_all goes_on xs ≡ true → goes_on n ≡ true
next n [] held all = absurd (both_ways false refl held)
next n (x ∷ xs) held all =
    let parts = and_parts (goes_on x) (list_all goes_on xs) all in
    ⊎_elim (λ same. subst (λ (k : ℕ). goes_on k ≡ true) (sym (eqb-true n x same)) parts.0) (λ later. next n xs later parts.1) (or_cases (eqb n x) (list_any (eqb n) xs) held)

known : (m : ℕ) → Series m → (list_any (eqb m) scales ≡ true) ⊎ (100000000 ≤ m)
known _ one = inl refl
known _ two = inl refl
known _ five = inl refl
known _ (tenfold {ticks} s) =
    ⊎_elim
    (λ held. ⊎_elim (λ h. inl h) (λ big. inr (leb-true 100000000 (10 * ticks) big)) (or_cases (list_any (eqb (10 * ticks)) scales) (leb 100000000 (10 * ticks)) (next ticks scales held refl)))
    (λ big. inr (omega arith))
    (known ticks s)

-- scales that rise, from a lower bound on
abbrev Rising : ℕ → List ℕ → Type 0
Rising low [] = low ≤ 100000000
Rising low (x ∷ xs) = (low ≤ x) × Rising x xs

above : (low m : ℕ) (xs : List ℕ) → Rising low xs → (list_any (eqb m) xs ≡ true) ⊎ (100000000 ≤ m) → low ≤ m
above low m [] rising (inl held) = absurd (both_ways false refl held)
above low m [] rising (inr big) = omega arith
above low m (x ∷ xs) rising (inl held) =
    ⊎_elim (λ same. omega (arith, eqb-true m x same)) (λ later. omega (arith, above x m xs rising.1 (inl later))) (or_cases (eqb m x) (list_any (eqb m) xs) held)
above low m (x ∷ xs) rising (inr big) = omega (arith, above x m xs rising.1 (inr big))

least : (clock low m : ℕ) (xs : List ℕ) → Rising low xs → clock < 60 * m → (list_any (eqb m) xs ≡ true) ⊎ (100000000 ≤ m) → first_fit clock xs ≤ m
least clock low m [] rising fits where' = above 100000000 m [] (omega arith) where'
least clock low m (x ∷ xs) rising fits where' =
    cond_both (ltb clock (60 * x)) (Some x) (find (λ n. nat_lt clock (60 * n)) xs) (λ (r : Option ℕ). unwrap_or r 100000000 ≤ m)
    (λ t. above x m (x ∷ xs) (omega arith, rising.1) where')
    (λ f. least clock x m xs rising.1 fits (not_here (ltb-false clock (60 * x) f) where'))
  where
    not_here : 60 * x ≤ clock → (list_any (eqb m) (x ∷ xs) ≡ true) ⊎ (100000000 ≤ m) → (list_any (eqb m) xs ≡ true) ⊎ (100000000 ≤ m)
    not_here past (inl held) = ⊎_elim (λ same. absurd (omega (arith, eqb-true m x same))) (λ later. inl later) (or_cases (eqb m x) (list_any (eqb m) xs) held)
    not_here past (inr big) = inr big

rises : Rising 1 scales
rises = omega arith

-- each is of the series
each : AllByRecursion Series scales
each = (one, (two, (five, ((tenfold one), ((tenfold two), ((tenfold five), ((tenfold (tenfold one)), ((tenfold (tenfold two)), ((tenfold (tenfold five)), ((tenfold (tenfold (tenfold one))), ((tenfold (tenfold (tenfold two))), ((tenfold (tenfold (tenfold five))), ((tenfold (tenfold (tenfold (tenfold one)))), ((tenfold (tenfold (tenfold (tenfold two)))), ((tenfold (tenfold (tenfold (tenfold five)))), ((tenfold (tenfold (tenfold (tenfold (tenfold one))))), ((tenfold (tenfold (tenfold (tenfold (tenfold two))))), ((tenfold (tenfold (tenfold (tenfold (tenfold five))))), ((tenfold (tenfold (tenfold (tenfold (tenfold (tenfold one)))))), ((tenfold (tenfold (tenfold (tenfold (tenfold (tenfold two)))))), ((tenfold (tenfold (tenfold (tenfold (tenfold (tenfold five)))))), ((tenfold (tenfold (tenfold (tenfold (tenfold (tenfold (tenfold one))))))), ((tenfold (tenfold (tenfold (tenfold (tenfold (tenfold (tenfold two))))))), ((tenfold (tenfold (tenfold (tenfold (tenfold (tenfold (tenfold five))))))), tt))))))))))))))))))))))))

stays : (clock : ℕ) (xs : List ℕ) → AllByRecursion Series xs → Series (first_fit clock xs)
stays clock [] all = tenfold (tenfold (tenfold (tenfold (tenfold (tenfold (tenfold (tenfold one)))))))
stays clock (x ∷ xs) all = cond_both (ltb clock (60 * x)) (Some x) (find (λ n. nat_lt clock (60 * n)) xs) (λ (r : Option ℕ). Series (unwrap_or r 100000000)) (λ t. all.0) (λ f. stays clock xs all.1)

found_fits : (clock : ℕ) (xs : List ℕ) → clock < 6000000000 → clock < 60 * first_fit clock xs
found_fits clock [] small = small
found_fits clock (x ∷ xs) small =
    cond_both (ltb clock (60 * x)) (Some x) (find (λ n. nat_lt clock (60 * n)) xs) (λ (r : Option ℕ). clock < 60 * unwrap_or r 100000000)
    (λ t. ltb-true clock (60 * x) t) (λ f. found_fits clock xs small)

pub first_fit-Scale : (clock : ℕ) → clock < 6000000000 → Scale clock (first_fit clock scales)
first_fit-Scale clock small =
    record {
      in_series = stays clock scales each;
      fits = found_fits clock scales small;
      smallest = λ m s fits. least clock 1 m scales rises fits (known m s);
    }
