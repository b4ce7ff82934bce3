-- Which pending calls lapsing ends, and that lapsing and simplification keep a sound expression sound.
use Rattle.std.proofs.Common.{◌≡◌, ℕ, ◌≤◌, Bool, true, false, cond, not, ◌&&◌, ◌||◌, eqb, List, [], ◌∷◌, ◌++◌, count_by, filter, sym, refl, ap, ◌∙◌, ap₂, arith}
use Rattle.std.proofs.lemmas.List.Sums.{sum_by-cons}
use Rattle.std.proofs.lemmas.List.Elements.{filter-append}
use Rattle.std.proofs.lemmas.Bool.{cond_both}
use Rattle.orc.specs.Meaning.{Meaning, handle, within_reach}
use Rattle.orc.specs.Expressions.{Expression, stop, site_call, definition_call, parallel, sequential, pruning, pending, Definition}
use Rattle.orc.specs.Variables.{free}
use Rattle.orc.specs.Simplified.{simplified}
use Rattle.orc.specs.Calls.{Pending, pending_calls, lapses, lapsed, RightsUnbegun}
use Rattle.orc.specs.Sound.{Closed, NumbersWithin}
use Rattle.orc.specs.Laws.{SimplificationAndLapsingKeepSoundness}
use Rattle.orc.proofs.Simplifying.{free_simplified, pending_simplified, unbegun_simplified, numbers_simplified}

kept_parts : (m : Meaning) (n : ℕ) (ps qs : List Pending) {ps' qs' : List Pending} → ps' ≡ filter (λ p. not (lapses m n p)) ps → qs' ≡ filter (λ p. not (lapses m n p)) qs → ps' ++ qs' ≡ filter (λ p. not (lapses m n p)) (ps ++ qs)
kept_parts m n ps qs h h' = ap₂ ◌++◌ h h' ∙ sym (filter-append (λ p. not (lapses m n p)) ps qs)

-- lapsing keeps the pending calls that do not lapse, in their order
pub pending_lapsed : (m : Meaning) (n : ℕ) (e : Expression) → pending_calls (lapsed m n e) ≡ filter (λ p. not (lapses m n p)) (pending_calls e)
unfolding pending_calls lapsed
pending_lapsed m n stop = refl
pending_lapsed m n (site_call s p) = refl
pending_lapsed m n (definition_call i p) = refl
pending_lapsed m n (parallel f g) = kept_parts m n (pending_calls f) (pending_calls g) (pending_lapsed m n f) (pending_lapsed m n g)
pending_lapsed m n (sequential x f g) = kept_parts m n (pending_calls f) (pending_calls g) (pending_lapsed m n f) (pending_lapsed m n g)
pending_lapsed m n (pruning x f g) = kept_parts m n (pending_calls f) (pending_calls g) (pending_lapsed m n f) (pending_lapsed m n g)
pending_lapsed m n (pending k s v c) = elim (within_reach (handle m s v) c n) as (λ b. pending_calls (cond b (pending k s v c) stop) ≡ cond (not (not b)) (record { ticket = k; site = s; argument = v; since = c } ∷ []) []) [ true ↦ refl | false ↦ refl ]

-- a part of a list has no more that pass a test
kept_by_fewer : {X : Type 0} (f t : X → Bool) (xs : List X) → count_by f (filter t xs) ≤ count_by f xs
kept_by_fewer f t [] = omega arith
kept_by_fewer f t (x ∷ xs) =
    let h = kept_by_fewer f t xs in
    let all = sum_by-cons (λ y. cond (f y) 1 0) x xs in
    cond_both (t x) (x ∷ filter t xs) (filter t xs) (λ ys. count_by f ys ≤ count_by f (x ∷ xs)) (λ _. omega (arith, sum_by-cons (λ y. cond (f y) 1 0) x (filter t xs))) (λ _. omega arith)

-- lapsing leaves the free variables, the rights of sequentials and the definitions' numbers as they were
free_lapsed : (m : Meaning) (n x : ℕ) (e : Expression) → free x (lapsed m n e) ≡ free x e
unfolding free lapsed
free_lapsed m n x stop = refl
free_lapsed m n x (site_call s p) = refl
free_lapsed m n x (definition_call i p) = refl
free_lapsed m n x (parallel f g) = ap₂ ◌||◌ (free_lapsed m n x f) (free_lapsed m n x g)
free_lapsed m n x (sequential y f g) = ap₂ (λ a b. a || (not (eqb x y) && b)) (free_lapsed m n x f) (free_lapsed m n x g)
free_lapsed m n x (pruning y f g) = ap₂ (λ a b. (not (eqb x y) && a) || b) (free_lapsed m n x f) (free_lapsed m n x g)
free_lapsed m n x (pending k s v c) = elim (within_reach (handle m s v) c n) as (λ b. free x (cond b (pending k s v c) stop) ≡ false) [ true ↦ refl | false ↦ refl ]

unbegun_lapsed : (m : Meaning) (n : ℕ) (e : Expression) → RightsUnbegun e → RightsUnbegun (lapsed m n e)
unfolding RightsUnbegun lapsed
unbegun_lapsed m n stop u = tt
unbegun_lapsed m n (site_call s p) u = tt
unbegun_lapsed m n (definition_call i p) u = tt
unbegun_lapsed m n (parallel f g) u = (unbegun_lapsed m n f u.0, unbegun_lapsed m n g u.1)
unbegun_lapsed m n (sequential x f g) u = (unbegun_lapsed m n f u.0, pending_lapsed m n g ∙ ap (filter (λ p. not (lapses m n p))) u.1)
unbegun_lapsed m n (pruning x f g) u = (unbegun_lapsed m n f u.0, unbegun_lapsed m n g u.1)
unbegun_lapsed m n (pending k s v c) u = elim (within_reach (handle m s v) c n) as (λ b. RightsUnbegun (cond b (pending k s v c) stop)) [ true ↦ tt | false ↦ tt ]

numbers_lapsed : (ds : List Definition) (m : Meaning) (n : ℕ) (e : Expression) → NumbersWithin ds e → NumbersWithin ds (lapsed m n e)
unfolding NumbersWithin lapsed
numbers_lapsed ds m n stop h = tt
numbers_lapsed ds m n (site_call s p) h = tt
numbers_lapsed ds m n (definition_call i p) h = h
numbers_lapsed ds m n (parallel f g) h = (numbers_lapsed ds m n f h.0, numbers_lapsed ds m n g h.1)
numbers_lapsed ds m n (sequential x f g) h = (numbers_lapsed ds m n f h.0, numbers_lapsed ds m n g h.1)
numbers_lapsed ds m n (pruning x f g) h = (numbers_lapsed ds m n f h.0, numbers_lapsed ds m n g h.1)
numbers_lapsed ds m n (pending k s v c) h = elim (within_reach (handle m s v) c n) as (λ b. NumbersWithin ds (cond b (pending k s v c) stop)) [ true ↦ tt | false ↦ tt ]

-- what was closed stays closed
closed_simplified : (e : Expression) → Closed e → Closed (simplified e)
closed_simplified e c x = let h = free_simplified x e in let n = c x in grind arith

pub soundness_kept : SimplificationAndLapsingKeepSoundness
soundness_kept =
    record {
      sound_when_simplified = λ W e d. record {
        distinct = λ k. rw (pending_simplified e d.unbegun) (d.distinct k);
        unbegun = unbegun_simplified e d.unbegun;
        numbers = numbers_simplified W.definitions e d.numbers;
      };
      closed_when_simplified = closed_simplified;
      sound_when_lapsed = λ W m n e d. record {
        distinct = λ k. rw (pending_lapsed m n e) (omega (arith, d.distinct k, kept_by_fewer (λ p. eqb k p.ticket) (λ p. not (lapses m n p)) (pending_calls e)));
        unbegun = unbegun_lapsed m n e d.unbegun;
        numbers = numbers_lapsed W.definitions m n e d.numbers;
      };
      closed_when_lapsed = λ m n e c x. free_lapsed m n x e ∙ c x;
    }
