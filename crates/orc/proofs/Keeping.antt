-- What every step keeps.
use Rattle.std.proofs.Common.{◌≡◌, ℕ, zero, suc, ◌+◌, ◌≤◌, Bool, true, false, cond, eqb, ◌⊎◌, List, [], ◌∷◌, ◌++◌, Some, count_by, sym, refl, ap, ◌∙◌, subst, inl, inr, arith}
use Rattle.std.specs.List.{AllByRecursion}
use Rattle.std.proofs.lemmas.Bool.Decides.{nat_tests, eqb_tells}
use Rattle.orc.specs.Expressions.{Expression, World, entry}
use Rattle.orc.specs.Variables.{substitute, free}
use Rattle.orc.specs.Calls.{Pending, pending_calls, NothingPending, RightsUnbegun}
use Rattle.orc.specs.Steps.{Act, called, inner, out, Leaf, Step, calls, unfolds, replies, parallel_left, parallel_right, sequential_keeps, sequential_spawns, pruning_left, pruning_keeps, pruning_binds}
use Rattle.orc.specs.Sound.{ClosedButFormal, NumbersWithin, standing, DistinctTickets, SoundDefinitions}
use Rattle.orc.specs.Laws.{begun, Accounted, KeptBySteps}
use Rattle.orc.proofs.Substitution.{free_substitute, pending_substitute, unbegun_substitute, numbers_substitute}
use Rattle.orc.proofs.Simplifying.{nothing_unbegun}
use Rattle.orc.proofs.Leaves.{publishes, stands, count_parts}

-- each definition of a list has what one that a number leads to must have
all_entry : {X : Type 0} (P : X → Type 0) (xs : List X) (i : ℕ) (x : X) → AllByRecursion P xs → entry xs i ≡ Some x → P x
all_entry P [] i x a h = let z : ◌≡◌ {A = ℕ} 0 1 = cc in absurd (omega arith)
all_entry P (y ∷ ys) zero x a h = let z : y ≡ x = cc in subst P z a.0
all_entry P (y ∷ ys) (suc i) x a h = all_entry P ys i x a.1 h

-- No step frees a variable, if no definition has a free variable but its formal.
pub step_frees_none : {W : World} {t k : ℕ} {e e' : Expression} {l : Leaf} {a : Act} {gone : List Pending} → AllByRecursion ClosedButFormal W.definitions → (y : ℕ) → Step W t k e l a gone e' → free y e ≡ false → free y e' ≡ false
unfolding free
step_frees_none c y calls n = refl
step_frees_none {W} c y (unfolds {i} {v} d h) n =
    let o = all_entry ClosedButFormal W.definitions i d c h y in
    let r = free_substitute v d.formal y d.body in
    grind (arith, nat_tests)
step_frees_none c y (replies r) n = refl
step_frees_none c y (parallel_left s) n = let h = step_frees_none c y s in grind arith
step_frees_none c y (parallel_right q s) n = let h = step_frees_none c y s in grind arith
step_frees_none c y (sequential_keeps q s) n = let h = step_frees_none c y s in grind arith
step_frees_none c y (sequential_spawns {x} {w} {f} {g} s) n = let h = step_frees_none c y s in let r = free_substitute w x y g in grind (arith, nat_tests)
step_frees_none c y (pruning_left s) n = let h = step_frees_none c y s in grind arith
step_frees_none c y (pruning_keeps q p s) n = let h = step_frees_none c y s in grind arith
step_frees_none c y (pruning_binds {x} {w} {f} q s) n = let r = free_substitute w x y f in grind (arith, nat_tests)

-- a step begins no pending call on the right of a sequential
keeps_unbegun : {W : World} {t k : ℕ} {e e' : Expression} {l : Leaf} {a : Act} {gone : List Pending} → AllByRecursion (λ d. NothingPending d.body) W.definitions → Step W t k e l a gone e' → RightsUnbegun e → RightsUnbegun e'
unfolding RightsUnbegun
keeps_unbegun n calls u = tt
keeps_unbegun {W} n (unfolds {i} {v} d h) u = unbegun_substitute v d.formal d.body (nothing_unbegun d.body (all_entry (λ d. NothingPending d.body) W.definitions i d n h))
keeps_unbegun n (replies r) u = tt
keeps_unbegun n (parallel_left s) u = (keeps_unbegun n s u.0, u.1)
keeps_unbegun n (parallel_right b s) u = (u.0, keeps_unbegun n s u.1)
keeps_unbegun n (sequential_keeps c s) u = (keeps_unbegun n s u.0, u.1)
keeps_unbegun n (sequential_spawns {x} {w} {f} {g} s) u = ((keeps_unbegun n s u.0, u.1), unbegun_substitute w x g (nothing_unbegun g u.1))
keeps_unbegun n (pruning_left s) u = (keeps_unbegun n s u.0, u.1)
keeps_unbegun n (pruning_keeps b c s) u = (u.0, keeps_unbegun n s u.1)
keeps_unbegun n (pruning_binds {x} {w} {f} b s) u = unbegun_substitute w x f u.0

-- a step leads to no number outside the list
keeps_numbers : {W : World} {t k : ℕ} {e e' : Expression} {l : Leaf} {a : Act} {gone : List Pending} → AllByRecursion (λ d. NumbersWithin W.definitions d.body) W.definitions → Step W t k e l a gone e' → NumbersWithin W.definitions e → NumbersWithin W.definitions e'
unfolding NumbersWithin
keeps_numbers n calls u = tt
keeps_numbers {W} n (unfolds {i} {v} d h) u = numbers_substitute W.definitions v d.formal d.body (all_entry (λ d. NumbersWithin W.definitions d.body) W.definitions i d n h)
keeps_numbers n (replies r) u = tt
keeps_numbers n (parallel_left s) u = (keeps_numbers n s u.0, u.1)
keeps_numbers n (parallel_right b s) u = (u.0, keeps_numbers n s u.1)
keeps_numbers n (sequential_keeps c s) u = (keeps_numbers n s u.0, u.1)
keeps_numbers {W} n (sequential_spawns {x} {w} {f} {g} s) u = ((keeps_numbers n s u.0, u.1), numbers_substitute W.definitions w x g u.1)
keeps_numbers n (pruning_left s) u = (keeps_numbers n s u.0, u.1)
keeps_numbers n (pruning_keeps b c s) u = (u.0, keeps_numbers n s u.1)
keeps_numbers {W} n (pruning_binds {x} {w} {f} b s) u = numbers_substitute W.definitions w x f u.0

-- a part that stays as it is leaves the balance of the other part even
even_left : {X : Type 0} (c : X → Bool) (ps ps' qs : List X) (m a g : ℕ) → count_by c ps + m ≡ a + (g + count_by c ps') → count_by c (ps ++ qs) + m ≡ a + (g + count_by c (ps' ++ qs))
even_left c ps ps' qs m a g h = omega (arith, count_parts c ps qs, count_parts c ps' qs)

even_right : {X : Type 0} (c : X → Bool) (ps qs qs' : List X) (m a g : ℕ) → count_by c qs + m ≡ a + (g + count_by c qs') → count_by c (ps ++ qs) + m ≡ a + (g + count_by c (ps ++ qs'))
even_right c ps qs qs' m a g h = omega (arith, count_parts c ps qs, count_parts c ps qs')

-- the pending calls before a step and the one that it begins are those answered, withdrawn and pending after it
balance : {W : World} {t k : ℕ} {e e' : Expression} {l : Leaf} {a : Act} {gone : List Pending} → AllByRecursion (λ d. NothingPending d.body) W.definitions → (c : Pending → Bool) (s : Step W t k e l a gone e') → RightsUnbegun e → count_by c (pending_calls e) + count_by c (begun t k a) ≡ count_by c (stands s).0 + (count_by c gone + count_by c (pending_calls e'))
unfolding pending_calls RightsUnbegun stands
balance n c calls u = omega arith
balance {W} n c (unfolds {i} {v} d h) u =
    let p = all_entry (λ d. NothingPending d.body) W.definitions i d n h in
    let q = pending_substitute v d.formal d.body in
    omega (arith, ap (count_by c) (q ∙ p))
balance n c (replies r) u = omega arith
balance n c (parallel_left {f} {g} {f'} s) u = even_left c (pending_calls f) (pending_calls f') (pending_calls g) _ _ _ (balance n c s u.0)
balance n c (parallel_right {f} {g} {g'} b s) u = even_right c (pending_calls f) (pending_calls g) (pending_calls g') _ _ _ (balance n c s u.1)
balance n c (sequential_keeps {x} {f} {g} {f'} q s) u = even_left c (pending_calls f) (pending_calls f') (pending_calls g) _ _ _ (balance n c s u.0)
balance n c (sequential_spawns {x} {w} {f} {g} {f'} s) u =
    let h = even_left c (pending_calls f) (pending_calls f') (pending_calls g) _ _ _ (balance n c s u.0) in
    let copy = ap (count_by c) (pending_substitute w x g ∙ u.1) in
    omega (arith, count_parts c (pending_calls f' ++ pending_calls g) (pending_calls (substitute w x g)))
balance n c (pruning_left {x} {f} {g} {f'} s) u = even_left c (pending_calls f) (pending_calls f') (pending_calls g) _ _ _ (balance n c s u.0)
balance n c (pruning_keeps {x} {f} {g} {g'} b q s) u = even_right c (pending_calls f) (pending_calls g) (pending_calls g') _ _ _ (balance n c s u.1)
balance n c (pruning_binds {x} {w} {f} {g} {g'} b s) u =
    let h = balance n c s u.1 in
    let none = ap (count_by c) (publishes 0 s).0 in
    let kept = ap (count_by c) (pending_substitute w x f) in
    omega (arith, count_parts c (pending_calls f) (pending_calls g))

accounted : {W : World} {t k : ℕ} {e e' : Expression} {l : Leaf} {a : Act} {gone : List Pending} → AllByRecursion (λ d. NothingPending d.body) W.definitions → Step W t k e l a gone e' → RightsUnbegun e → Accounted W t k e l a gone e'
accounted n s u = record { answered = (stands s).0; by_the_leaf = (stands s).1; balance = λ c. balance n c s u }

-- a site call begins one pending call with the step's ticket, and no act begins one with another
begun_count : (t k j : ℕ) (a : Act) → count_by (λ p. eqb j p.ticket) (begun t k a) ≤ cond (eqb j k) 1 0
begun_count t k j (called s v) = omega arith
begun_count t k j inner = omega arith
begun_count t k j (out w) = omega arith

-- a step with a fresh ticket leaves the tickets distinct
keeps_distinct : {W : World} {t k : ℕ} {e e' : Expression} {l : Leaf} {a : Act} {gone : List Pending} → AllByRecursion (λ d. NothingPending d.body) W.definitions → Step W t k e l a gone e' → RightsUnbegun e → standing k e ≡ 0 → DistinctTickets e → DistinctTickets e'
keeps_distinct {W} {t} {k} {e} {e'} {l} {a} n s u fresh d j = fresh_or_not (eqb_tells j k)
  where
    fresh_or_not : ((eqb j k ≡ true) × (j ≡ k)) ⊎ ((eqb j k ≡ false) × (j ≡ k → ⊥)) → standing j e' ≤ 1
    fresh_or_not (inl h) = let none = subst (λ m. standing m e ≡ 0) (sym h.1) fresh in omega (arith, rw h.0 at (begun_count t k j a), balance n (λ p. eqb j p.ticket) s u)
    fresh_or_not (inr h) = omega (arith, rw h.0 at (begun_count t k j a), balance n (λ p. eqb j p.ticket) s u, d j)

-- Every step keeps what makes the next one determined.
pub kept_by_steps : (W : World) → SoundDefinitions W.definitions → KeptBySteps W
kept_by_steps W ds =
    record {
      sound = λ s fresh d. record {
        distinct = keeps_distinct ds.nothing_pending s d.unbegun fresh d.distinct;
        unbegun = keeps_unbegun ds.nothing_pending s d.unbegun;
        numbers = keeps_numbers ds.numbers s d.numbers;
      };
      closed = λ s c x. step_frees_none ds.closed x s (c x);
      accounted = λ s u. accounted ds.nothing_pending s u;
    }
