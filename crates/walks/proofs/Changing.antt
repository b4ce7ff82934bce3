-- A form with a change, head by head.
use Rattle.std.proofs.Common.{◌≡◌, ℕ, true, false, cond, eqb, [], ◌∷◌, ◌++◌, Some, None, Option, refl, ap, ◌∙◌}
use Rattle.orc.specs.Expressions.{Parameter, Expression, stop, site_call, definition_call, parallel, sequential, pruning, pending, bytes, parameter_bytes}
use Rattle.orc.specs.Variables.{substitute, substitute_below}
use Rattle.walks.specs.declared.change.Change.{Change}
use Rattle.walks.specs.Changes.{changed, changed_parameter, unless_bound}

below : (c : Change) (y : ℕ) (e : Expression) → changed (unless_bound (Some c) y) e ≡ substitute_below c.value c.variable y e
below c y e = elim (eqb c.variable y) as (λ b. changed (cond b None (Some c)) e ≡ cond b e (substitute c.value c.variable e)) [ true ↦ refl | false ↦ refl ]

pub changed_stop : (ch : Option Change) {e : Expression} → stop ≡ e → 0 ∷ [] ≡ bytes (changed ch e)
unfolding bytes substitute
changed_stop None is = ap bytes is
changed_stop (Some c) is = ap (λ e. bytes (changed (Some c) e)) is

pub changed_site_call : (ch : Option Change) {e : Expression} (s : ℕ) (p : Parameter) → site_call s p ≡ e → 1 ∷ s ∷ parameter_bytes (changed_parameter ch p) ≡ bytes (changed ch e)
unfolding bytes substitute
changed_site_call None s p is = ap bytes is
changed_site_call (Some c) s p is = ap (λ e. bytes (changed (Some c) e)) is

pub changed_definition_call : (ch : Option Change) {e : Expression} (i : ℕ) (p : Parameter) → definition_call i p ≡ e → 2 ∷ i ∷ parameter_bytes (changed_parameter ch p) ≡ bytes (changed ch e)
unfolding bytes substitute
changed_definition_call None i p is = ap bytes is
changed_definition_call (Some c) i p is = ap (λ e. bytes (changed (Some c) e)) is

pub changed_parallel : (ch : Option Change) {e : Expression} (f g : Expression) → parallel f g ≡ e → 3 ∷ (bytes (changed ch f) ++ bytes (changed ch g)) ≡ bytes (changed ch e)
unfolding bytes substitute
changed_parallel None f g is = ap bytes is
changed_parallel (Some c) f g is = ap (λ e. bytes (changed (Some c) e)) is

pub changed_sequential : (ch : Option Change) {e : Expression} (y : ℕ) (f g : Expression) → sequential y f g ≡ e → 4 ∷ y ∷ (bytes (changed ch f) ++ bytes (changed (unless_bound ch y) g)) ≡ bytes (changed ch e)
unfolding bytes substitute
changed_sequential None y f g is = ap bytes is
changed_sequential (Some c) y f g is = ap (λ r. 4 ∷ y ∷ (bytes (changed (Some c) f) ++ bytes r)) (below c y g) ∙ ap (λ e. bytes (changed (Some c) e)) is

pub changed_pruning : (ch : Option Change) {e : Expression} (y : ℕ) (f g : Expression) → pruning y f g ≡ e → 5 ∷ y ∷ (bytes (changed (unless_bound ch y) f) ++ bytes (changed ch g)) ≡ bytes (changed ch e)
unfolding bytes substitute
changed_pruning None y f g is = ap bytes is
changed_pruning (Some c) y f g is = ap (λ l. 5 ∷ y ∷ (bytes l ++ bytes (changed (Some c) g))) (below c y f) ∙ ap (λ e. bytes (changed (Some c) e)) is

pub changed_pending : (ch : Option Change) {e : Expression} (k s v n : ℕ) → pending k s v n ≡ e → bytes (pending k s v n) ≡ bytes (changed ch e)
unfolding bytes substitute
changed_pending None k s v n is = ap bytes is
changed_pending (Some c) k s v n is = ap (λ e. bytes (changed (Some c) e)) is
