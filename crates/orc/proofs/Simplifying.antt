-- Simplification: how it is made up, and what it leaves as it was.
use Rattle.std.proofs.Common.{◌≡◌, ℕ, ◌+◌, ◌≤◌, Bool, true, false, cond, eqb, List, [], ◌∷◌, ◌++◌, length, refl, ◌∙◌, ap₂, arith, length-append}
use Rattle.std.proofs.lemmas.List.{append-nil}
use Rattle.std.proofs.lemmas.Bool.Decides.{nat_tests}
use Rattle.orc.specs.Expressions.{Expression, stop, site_call, definition_call, parallel, sequential, pruning, pending, bytes, size, Definition}
use Rattle.orc.specs.Variables.{substitute, substitute_below, free}
use Rattle.orc.specs.Simplified.{is_stop, parallel_of, sequential_of, pruning_of, simplified}
use Rattle.orc.specs.Calls.{pending_calls, RightsUnbegun}
use Rattle.orc.specs.Sound.{NumbersWithin}
use Rattle.orc.proofs.Substitution.{free_substitute, substitute_absent, is_stop_substitute}

is_stop_only : (e : Expression) → is_stop e ≡ true → e ≡ stop
is_stop_only stop h = refl
is_stop_only (site_call s p) h = cc
is_stop_only (definition_call i p) h = cc
is_stop_only (parallel f g) h = cc
is_stop_only (sequential x f g) h = cc
is_stop_only (pruning x f g) h = cc
is_stop_only (pending k s v c) h = cc

-- What holds of the result in each case holds of the simplified parallel, sequential and pruning.
pub by_parallel : (P : Expression → Type 0) (f g : Expression) → (f ≡ stop → P g) → (g ≡ stop → P f) → (parallel_of f g ≡ parallel f g → P (parallel f g)) → P (parallel_of f g)
unfolding parallel_of
by_parallel P f g left right both = go (is_stop f) (is_stop g) (is_stop_only f) (is_stop_only g) both
  where
    go : (b c : Bool) → (b ≡ true → f ≡ stop) → (c ≡ true → g ≡ stop) → (cond b g (cond c f (parallel f g)) ≡ parallel f g → P (parallel f g)) → P (cond b g (cond c f (parallel f g)))
    go true c p q r = left (p refl)
    go false true p q r = right (q refl)
    go false false p q r = r refl

pub by_sequential : (P : Expression → Type 0) (x : ℕ) (f g : Expression) → (f ≡ stop → P stop) → (sequential_of x f g ≡ sequential x f g → P (sequential x f g)) → P (sequential_of x f g)
unfolding sequential_of
by_sequential P x f g left both = go (is_stop f) (is_stop_only f) both
  where
    go : (b : Bool) → (b ≡ true → f ≡ stop) → (cond b stop (sequential x f g) ≡ sequential x f g → P (sequential x f g)) → P (cond b stop (sequential x f g))
    go true p r = left (p refl)
    go false p r = r refl

pub by_pruning : (P : Expression → Type 0) (x : ℕ) (f g : Expression) → (g ≡ stop → free x f ≡ false → P f) → (pruning_of x f g ≡ pruning x f g → P (pruning x f g)) → P (pruning_of x f g)
unfolding pruning_of
by_pruning P x f g right both = go (is_stop g) (free x f) (is_stop_only g) right both
  where
    go : (b c : Bool) → (b ≡ true → g ≡ stop) → (g ≡ stop → c ≡ false → P f) → (cond b (cond c (pruning x f g) f) (pruning x f g) ≡ pruning x f g → P (pruning x f g)) → P (cond b (cond c (pruning x f g) f) (pruning x f g))
    go true true p q r = r refl
    go true false p q r = q (p refl) refl
    go false c p q r = r refl

substitute_parallel_of : (v x : ℕ) (f g : Expression) → substitute v x (parallel_of f g) ≡ parallel_of (substitute v x f) (substitute v x g)
unfolding substitute parallel_of
substitute_parallel_of v x f g = let p = is_stop_substitute v x f in let q = is_stop_substitute v x g in grind arith

substitute_sequential_of : (v x y : ℕ) (f g : Expression) → substitute v x (sequential_of y f g) ≡ sequential_of y (substitute v x f) (substitute_below v x y g)
unfolding substitute sequential_of
substitute_sequential_of v x y f g = let p = is_stop_substitute v x f in grind arith

substitute_pruning_of : (v x y : ℕ) (f g : Expression) → substitute v x (pruning_of y f g) ≡ pruning_of y (substitute_below v x y f) (substitute v x g)
unfolding substitute pruning_of
substitute_pruning_of v x y f g =
    let p = is_stop_substitute v x g in
    let q = free_substitute v x y f in
    let r = substitute_absent v x f in
    grind (arith, nat_tests)

simplified_below : (v x : ℕ) (b : Bool) (e e' : Expression) → substitute v x (simplified e) ≡ simplified e' → cond b (simplified e) (substitute v x (simplified e)) ≡ simplified (cond b e e')
simplified_below v x true e e' h = refl
simplified_below v x false e e' h = h

-- a value for x goes into the simplified expression as into the expression
pub substitute_simplified : (v x : ℕ) (e : Expression) → substitute v x (simplified e) ≡ simplified (substitute v x e)
unfolding substitute simplified
substitute_simplified v x stop = refl
substitute_simplified v x (site_call s p) = refl
substitute_simplified v x (definition_call i p) = refl
substitute_simplified v x (parallel f g) = substitute_parallel_of v x (simplified f) (simplified g) ∙ ap₂ parallel_of (substitute_simplified v x f) (substitute_simplified v x g)
substitute_simplified v x (sequential y f g) = substitute_sequential_of v x y (simplified f) (simplified g) ∙ ap₂ (sequential_of y) (substitute_simplified v x f) (simplified_below v x (eqb x y) g (substitute v x g) (substitute_simplified v x g))
substitute_simplified v x (pruning y f g) = substitute_pruning_of v x y (simplified f) (simplified g) ∙ ap₂ (pruning_of y) (simplified_below v x (eqb x y) f (substitute v x f) (substitute_simplified v x f)) (substitute_simplified v x g)
substitute_simplified v x (pending k s w c) = refl

-- simplification done twice is simplification
pub simplified_twice : (e : Expression) → simplified (simplified e) ≡ simplified e
unfolding simplified
simplified_twice stop = refl
simplified_twice (site_call s p) = refl
simplified_twice (definition_call i p) = refl
simplified_twice (parallel f g) =
    by_parallel (λ e. simplified e ≡ e) (simplified f) (simplified g) (λ _. simplified_twice g) (λ _. simplified_twice f) (λ h. ap₂ parallel_of (simplified_twice f) (simplified_twice g) ∙ h)
simplified_twice (sequential x f g) =
    by_sequential (λ e. simplified e ≡ e) x (simplified f) (simplified g) (λ _. refl) (λ h. ap₂ (sequential_of x) (simplified_twice f) (simplified_twice g) ∙ h)
simplified_twice (pruning x f g) =
    by_pruning (λ e. simplified e ≡ e) x (simplified f) (simplified g) (λ _ _. simplified_twice f) (λ h. ap₂ (pruning_of x) (simplified_twice f) (simplified_twice g) ∙ h)
simplified_twice (pending k s v c) = refl

-- the size of an expression of two parts
size_parts : (f g : Expression) → length (bytes f ++ bytes g) ≡ size f + size g
size_parts f g = length-append (bytes f) (bytes g)

-- simplification makes no form longer
pub size_simplified : (e : Expression) → size (simplified e) ≤ size e
unfolding bytes simplified
size_simplified stop = omega arith
size_simplified (site_call s p) = omega arith
size_simplified (definition_call i p) = omega arith
size_simplified (parallel f g) =
    let p = size_simplified f in
    let q = size_simplified g in
    let b = size_parts f g in
    by_parallel (λ e. size e ≤ size (parallel f g)) (simplified f) (simplified g) (λ _. omega arith) (λ _. omega arith) (λ _. let a = size_parts (simplified f) (simplified g) in omega arith)
size_simplified (sequential x f g) =
    let p = size_simplified f in
    let q = size_simplified g in
    let b = size_parts f g in
    by_sequential (λ e. size e ≤ size (sequential x f g)) x (simplified f) (simplified g) (λ _. omega arith) (λ _. let a = size_parts (simplified f) (simplified g) in omega arith)
size_simplified (pruning x f g) =
    let p = size_simplified f in
    let q = size_simplified g in
    let b = size_parts f g in
    by_pruning (λ e. size e ≤ size (pruning x f g)) x (simplified f) (simplified g) (λ _ _. omega arith) (λ _. let a = size_parts (simplified f) (simplified g) in omega arith)
size_simplified (pending k s v c) = omega arith

-- simplification makes no variable free
pub free_simplified : (x : ℕ) (e : Expression) → free x (simplified e) ≡ true → free x e ≡ true
unfolding free simplified
free_simplified x stop = λ a. a
free_simplified x (site_call s p) = λ a. a
free_simplified x (definition_call i p) = λ a. a
free_simplified x (parallel f g) =
    let p = free_simplified x f in
    let q = free_simplified x g in
    by_parallel (λ e. free x e ≡ true → free x (parallel f g) ≡ true) (simplified f) (simplified g) (λ _ a. grind arith) (λ _ a. grind arith) (λ _ a. grind arith)
free_simplified x (sequential y f g) =
    let p = free_simplified x f in
    let q = free_simplified x g in
    by_sequential (λ e. free x e ≡ true → free x (sequential y f g) ≡ true) y (simplified f) (simplified g) (λ _ a. grind arith) (λ _ a. grind arith)
free_simplified x (pruning y f g) =
    let p = free_simplified x f in
    let q = free_simplified x g in
    by_pruning (λ e. free x e ≡ true → free x (pruning y f g) ≡ true) y (simplified f) (simplified g) (λ _ n a. grind (arith, nat_tests)) (λ _ a. grind arith)
free_simplified x (pending k s v c) = λ a. a

no_parts : {X : Type 0} (xs ys : List X) → xs ++ ys ≡ [] → (xs ≡ []) × (ys ≡ [])
no_parts [] ys n = (refl, n)
no_parts (x ∷ xs) ys n = (cc, cc)

-- where nothing is pending, nothing is pending on the right of a sequential
pub nothing_unbegun : (e : Expression) → pending_calls e ≡ [] → RightsUnbegun e
unfolding pending_calls RightsUnbegun
nothing_unbegun stop n = tt
nothing_unbegun (site_call s p) n = tt
nothing_unbegun (definition_call i p) n = tt
nothing_unbegun (parallel f g) n = let h = no_parts (pending_calls f) (pending_calls g) n in (nothing_unbegun f h.0, nothing_unbegun g h.1)
nothing_unbegun (sequential x f g) n = let h = no_parts (pending_calls f) (pending_calls g) n in (nothing_unbegun f h.0, h.1)
nothing_unbegun (pruning x f g) n = let h = no_parts (pending_calls f) (pending_calls g) n in (nothing_unbegun f h.0, nothing_unbegun g h.1)
nothing_unbegun (pending k s v c) n = tt

-- simplification ends no pending call that has begun
pub pending_simplified : (e : Expression) → RightsUnbegun e → pending_calls (simplified e) ≡ pending_calls e
unfolding pending_calls RightsUnbegun simplified
pending_simplified stop u = refl
pending_simplified (site_call s p) u = refl
pending_simplified (definition_call i p) u = refl
pending_simplified (parallel f g) u =
    let p = pending_simplified f u.0 in
    let q = pending_simplified g u.1 in
    by_parallel (λ e. pending_calls e ≡ pending_calls f ++ pending_calls g) (simplified f) (simplified g) (λ h. cc) (λ h. cc (append-nil (pending_calls f))) (λ _. ap₂ ◌++◌ p q)
pending_simplified (sequential x f g) u =
    let p = pending_simplified f u.0 in
    let q = pending_simplified g (nothing_unbegun g u.1) in
    by_sequential (λ e. pending_calls e ≡ pending_calls f ++ pending_calls g) x (simplified f) (simplified g) (λ h. cc u.1) (λ _. ap₂ ◌++◌ p q)
pending_simplified (pruning x f g) u =
    let p = pending_simplified f u.0 in
    let q = pending_simplified g u.1 in
    by_pruning (λ e. pending_calls e ≡ pending_calls f ++ pending_calls g) x (simplified f) (simplified g) (λ h _. cc (append-nil (pending_calls f))) (λ _. ap₂ ◌++◌ p q)
pending_simplified (pending k s v c) u = refl

-- nor begins one on the right of a sequential, nor calls another definition
pub unbegun_simplified : (e : Expression) → RightsUnbegun e → RightsUnbegun (simplified e)
unfolding RightsUnbegun simplified
unbegun_simplified stop u = tt
unbegun_simplified (site_call s p) u = tt
unbegun_simplified (definition_call i p) u = tt
unbegun_simplified (parallel f g) u =
    let p = unbegun_simplified f u.0 in
    let q = unbegun_simplified g u.1 in
    by_parallel RightsUnbegun (simplified f) (simplified g) (λ _. q) (λ _. p) (λ _. (p, q))
unbegun_simplified (sequential x f g) u =
    by_sequential RightsUnbegun x (simplified f) (simplified g) (λ _. tt) (λ _. (unbegun_simplified f u.0, pending_simplified g (nothing_unbegun g u.1) ∙ u.1))
unbegun_simplified (pruning x f g) u =
    let p = unbegun_simplified f u.0 in
    by_pruning RightsUnbegun x (simplified f) (simplified g) (λ _ _. p) (λ _. (p, unbegun_simplified g u.1))
unbegun_simplified (pending k s v c) u = tt

pub numbers_simplified : (ds : List Definition) (e : Expression) → NumbersWithin ds e → NumbersWithin ds (simplified e)
unfolding NumbersWithin simplified
numbers_simplified ds stop h = tt
numbers_simplified ds (site_call s p) h = tt
numbers_simplified ds (definition_call i p) h = h
numbers_simplified ds (parallel f g) h =
    let p = numbers_simplified ds f h.0 in
    let q = numbers_simplified ds g h.1 in
    by_parallel (NumbersWithin ds) (simplified f) (simplified g) (λ _. q) (λ _. p) (λ _. (p, q))
numbers_simplified ds (sequential x f g) h = by_sequential (NumbersWithin ds) x (simplified f) (simplified g) (λ _. tt) (λ _. (numbers_simplified ds f h.0, numbers_simplified ds g h.1))
numbers_simplified ds (pruning x f g) h =
    let p = numbers_simplified ds f h.0 in
    by_pruning (NumbersWithin ds) x (simplified f) (simplified g) (λ _ _. p) (λ _. (p, numbers_simplified ds g h.1))
numbers_simplified ds (pending k s v c) h = tt
