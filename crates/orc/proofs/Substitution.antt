-- What substitution does to the free variables, the calls and the shape of an expression.
use Rattle.std.proofs.Common.{◌≡◌, ℕ, Bool, true, false, cond, not, ◌&&◌, eqb, List, ◌++◌, refl, ap, ◌∙◌, ap₂, arith}
use Rattle.std.proofs.lemmas.Bool.{or_parts}
use Rattle.std.proofs.lemmas.Bool.Decides.{nat_tests}
use Rattle.orc.specs.Expressions.{Parameter, value, variable, Expression, stop, site_call, definition_call, parallel, sequential, pruning, pending, Definition}
use Rattle.orc.specs.Variables.{replaced, substitute, substitute_below, is_variable, free}
use Rattle.orc.specs.Simplified.{is_stop}
use Rattle.orc.specs.Calls.{pending_calls, NothingPending, RightsUnbegun}
use Rattle.orc.specs.Sound.{NumbersWithin}

replaced_free : (v x y : ℕ) (p : Parameter) → is_variable y (replaced v x p) ≡ (not (eqb x y) && is_variable y p)
replaced_free v x y (value w) = grind (arith, nat_tests)
replaced_free v x y (variable z) = grind (arith, nat_tests)

-- once a value is in for x, x is free no more, and every other variable is as free as before
pub free_substitute : (v x y : ℕ) (e : Expression) → free y (substitute v x e) ≡ (not (eqb x y) && free y e)
unfolding substitute free
free_substitute v x y stop = grind (arith, nat_tests)
free_substitute v x y (site_call s p) = replaced_free v x y p
free_substitute v x y (definition_call i p) = replaced_free v x y p
free_substitute v x y (parallel f g) = let p = free_substitute v x y f in let q = free_substitute v x y g in grind (arith, nat_tests)
free_substitute v x y (sequential z f g) = let p = free_substitute v x y f in let q = free_substitute v x y g in grind (arith, nat_tests)
free_substitute v x y (pruning z f g) = let p = free_substitute v x y f in let q = free_substitute v x y g in grind (arith, nat_tests)
free_substitute v x y (pending k s w c) = grind (arith, nat_tests)

replaced_absent : (v x : ℕ) (p : Parameter) → is_variable x p ≡ false → replaced v x p ≡ p
replaced_absent v x (value w) a = refl
replaced_absent v x (variable y) a = rw a

below_absent : (b c : Bool) (e e' : Expression) → (not b && c) ≡ false → (c ≡ false → e' ≡ e) → cond b e e' ≡ e
below_absent true c e e' a h = refl
below_absent false c e e' a h = h a

-- where x is not free, a value for it changes nothing
pub substitute_absent : (v x : ℕ) (e : Expression) → free x e ≡ false → substitute v x e ≡ e
unfolding substitute free
substitute_absent v x stop a = refl
substitute_absent v x (site_call s p) a = ap (site_call s) (replaced_absent v x p a)
substitute_absent v x (definition_call i p) a = ap (definition_call i) (replaced_absent v x p a)
substitute_absent v x (parallel f g) a =
    let h = or_parts (free x f) (free x g) a in
    ap₂ parallel (substitute_absent v x f h.0) (substitute_absent v x g h.1)
substitute_absent v x (sequential y f g) a =
    let h = or_parts (free x f) (not (eqb x y) && free x g) a in
    ap₂ (sequential y) (substitute_absent v x f h.0) (below_absent (eqb x y) (free x g) g (substitute v x g) h.1 (substitute_absent v x g))
substitute_absent v x (pruning y f g) a =
    let h = or_parts (not (eqb x y) && free x f) (free x g) a in
    ap₂ (pruning y) (below_absent (eqb x y) (free x f) f (substitute v x f) h.0 (substitute_absent v x f)) (substitute_absent v x g h.1)
substitute_absent v x (pending k s w c) a = refl

-- so it may go in below a binder of y too, where y is not free
pub substitute_below_absent : (v x y : ℕ) (e : Expression) → free y e ≡ false → substitute_below v x y e ≡ substitute v x e
substitute_below_absent v x y e a = let h = substitute_absent v x e in grind (arith, nat_tests)

-- a value for x leaves a stop a stop, and makes none
pub is_stop_substitute : (v x : ℕ) (e : Expression) → is_stop (substitute v x e) ≡ is_stop e
unfolding substitute
is_stop_substitute v x stop = refl
is_stop_substitute v x (site_call s p) = refl
is_stop_substitute v x (definition_call i p) = refl
is_stop_substitute v x (parallel f g) = refl
is_stop_substitute v x (sequential y f g) = refl
is_stop_substitute v x (pruning y f g) = refl
is_stop_substitute v x (pending k s w c) = refl

below_same : {X : Type 0} (F : Expression → X) (b : Bool) (e e' : Expression) → F e' ≡ F e → F (cond b e e') ≡ F e
below_same F true e e' h = refl
below_same F false e e' h = h

-- a value for x touches no pending call
pub pending_substitute : (v x : ℕ) (e : Expression) → pending_calls (substitute v x e) ≡ pending_calls e
unfolding substitute pending_calls
pending_substitute v x stop = refl
pending_substitute v x (site_call s p) = refl
pending_substitute v x (definition_call i p) = refl
pending_substitute v x (parallel f g) = ap₂ ◌++◌ (pending_substitute v x f) (pending_substitute v x g)
pending_substitute v x (sequential y f g) = ap₂ ◌++◌ (pending_substitute v x f) (below_same pending_calls (eqb x y) g (substitute v x g) (pending_substitute v x g))
pending_substitute v x (pruning y f g) = ap₂ ◌++◌ (below_same pending_calls (eqb x y) f (substitute v x f) (pending_substitute v x f)) (pending_substitute v x g)
pending_substitute v x (pending k s w c) = refl

below_holds : (P : Expression → Type 0) (b : Bool) (e e' : Expression) → P e → P e' → P (cond b e e')
below_holds P true e e' p p' = p
below_holds P false e e' p p' = p'

-- nor does it begin one on the right of a sequential
pub unbegun_substitute : (v x : ℕ) (e : Expression) → RightsUnbegun e → RightsUnbegun (substitute v x e)
unfolding substitute RightsUnbegun
unbegun_substitute v x stop u = tt
unbegun_substitute v x (site_call s p) u = tt
unbegun_substitute v x (definition_call i p) u = tt
unbegun_substitute v x (parallel f g) u = (unbegun_substitute v x f u.0, unbegun_substitute v x g u.1)
unbegun_substitute v x (sequential y f g) u = (unbegun_substitute v x f u.0, below_holds NothingPending (eqb x y) g (substitute v x g) u.1 (pending_substitute v x g ∙ u.1))
unbegun_substitute v x (pruning y f g) u = (below_holds RightsUnbegun (eqb x y) f (substitute v x f) u.0 (unbegun_substitute v x f u.0), unbegun_substitute v x g u.1)
unbegun_substitute v x (pending k s w c) u = tt

-- and it changes no definition's number
pub numbers_substitute : (ds : List Definition) (v x : ℕ) (e : Expression) → NumbersWithin ds e → NumbersWithin ds (substitute v x e)
unfolding substitute NumbersWithin
numbers_substitute ds v x stop n = tt
numbers_substitute ds v x (site_call s p) n = tt
numbers_substitute ds v x (definition_call i p) n = n
numbers_substitute ds v x (parallel f g) n = (numbers_substitute ds v x f n.0, numbers_substitute ds v x g n.1)
numbers_substitute ds v x (sequential y f g) n = (numbers_substitute ds v x f n.0, below_holds (NumbersWithin ds) (eqb x y) g (substitute v x g) n.1 (numbers_substitute ds v x g n.1))
numbers_substitute ds v x (pruning y f g) n = (below_holds (NumbersWithin ds) (eqb x y) f (substitute v x f) n.0 (numbers_substitute ds v x f n.0), numbers_substitute ds v x g n.1)
numbers_substitute ds v x (pending k s w c) n = tt
