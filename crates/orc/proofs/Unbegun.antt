-- Expressions that hold no pending call. Assumes nothing.
use Rattle.std.proofs.Common.{◌≡◌, ℕ, zero, suc, Bool, true, false, cond, eqb, List, [], ◌∷◌, ◌++◌, Some, sym, refl, ap, ◌∙◌, ap₂, le_refl}
use Rattle.std.specs.List.{AllByRecursion}
use Rattle.orc.specs.Expressions.{Parameter, value, variable, Expression, stop, site_call, definition_call, parallel, sequential, pruning, pending, Definition, World, entry}
use Rattle.orc.specs.Variables.{substitute, substitute_below}
use Rattle.orc.specs.Calls.{pending_calls, NothingPending}
use Rattle.orc.specs.Steps.{Waits, Pass}
use Rattle.orc.specs.Agreement.{NothingPendingWithin}

both_empty : {X : Type 0} (xs ys : List X) → xs ++ ys ≡ [] → (xs ≡ []) × (ys ≡ [])
both_empty [] ys h = (refl, h)
both_empty (x ∷ xs) ys h = (cc, cc)

-- the parts of an operator hold no pending call if the whole holds none
pub parts_nothing_pending : (f g : Expression) → pending_calls f ++ pending_calls g ≡ [] → NothingPending f × NothingPending g
parts_nothing_pending f g = both_empty (pending_calls f) (pending_calls g)

same_either_way : (b : Bool) (e e' : Expression) → pending_calls e' ≡ pending_calls e → pending_calls (cond b e e') ≡ pending_calls e
same_either_way true e e' h = refl
same_either_way false e e' h = h

pub pending_calls_substitute : (v x : ℕ) (e : Expression) → pending_calls (substitute v x e) ≡ pending_calls e
unfolding pending_calls substitute
pending_calls_substitute v x stop = refl
pending_calls_substitute v x (site_call s p) = refl
pending_calls_substitute v x (definition_call i p) = refl
pending_calls_substitute v x (parallel f g) = ap₂ ◌++◌ (pending_calls_substitute v x f) (pending_calls_substitute v x g)
pending_calls_substitute v x (sequential y f g) = ap₂ ◌++◌ (pending_calls_substitute v x f) (same_either_way (eqb x y) g (substitute v x g) (pending_calls_substitute v x g))
pending_calls_substitute v x (pruning y f g) = ap₂ ◌++◌ (same_either_way (eqb x y) f (substitute v x f) (pending_calls_substitute v x f)) (pending_calls_substitute v x g)
pending_calls_substitute v x (pending k s w c) = refl

pub pending_calls_substitute_below : (v x y : ℕ) (e : Expression) → pending_calls (substitute_below v x y e) ≡ pending_calls e
pending_calls_substitute_below v x y e = same_either_way (eqb x y) e (substitute v x e) (pending_calls_substitute v x e)

waits_here : (t : ℕ) (p : Parameter) → Waits t t p
waits_here t (value v) = refl
waits_here t (variable x) = le_refl t

-- with nothing pending an expression can always stay at its tick
pub stays : (W : World) (t : ℕ) (e : Expression) → NothingPending e → Pass W t t e
unfolding pending_calls
stays W t stop h = le_refl t
stays W t (site_call s p) h = waits_here t p
stays W t (definition_call i p) h = waits_here t p
stays W t (parallel f g) h = let p = parts_nothing_pending f g h in (stays W t f p.0, stays W t g p.1)
stays W t (sequential x f g) h = stays W t f (parts_nothing_pending f g h).0
stays W t (pruning x f g) h = let p = parts_nothing_pending f g h in (stays W t f p.0, stays W t g p.1)
stays W t (pending k s v c) h = (le_refl t, cc)

-- what a definition call becomes holds no pending call
body_nothing_pending : (ds : List Definition) (i : ℕ) (d : Definition) → AllByRecursion (λ (d : Definition). NothingPending d.body) ds → entry ds i ≡ Some d → NothingPending d.body
body_nothing_pending [] i d h q = cc
body_nothing_pending (d' ∷ ds) zero d h q = let s : d' ≡ d = cc in ap (λ (d : Definition). pending_calls d.body) (sym s) ∙ h.0
body_nothing_pending (d' ∷ ds) (suc i) d h q = body_nothing_pending ds i d h.1 q

pub unfolded_nothing_pending : (W : World) (i v : ℕ) (d : Definition) → NothingPendingWithin W → entry W.definitions i ≡ Some d → NothingPending (substitute v d.formal d.body)
unfolded_nothing_pending W i v d h q = pending_calls_substitute v d.formal d.body ∙ body_nothing_pending W.definitions i d h q
