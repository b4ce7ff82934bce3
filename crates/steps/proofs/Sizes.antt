-- A value put in for a variable leaves the size of a form as it is. Assumes nothing.
use Rattle.std.proofs.Common.{◌≡◌, ℕ, suc, Bool, true, false, cond, eqb, ◌++◌, length, refl, ap, arith}
use Rattle.std.proofs.lemmas.List.{length-append}
use Rattle.orc.specs.Expressions.{Expression, stop, site_call, definition_call, parallel, sequential, pruning, pending, bytes, size}
use Rattle.orc.specs.Variables.{substitute}

-- either of two expressions that are as long as the first
either_size : (b : Bool) (e e' : Expression) → size e' ≡ size e → size (cond b e e') ≡ size e
either_size true e e' same = refl
either_size false e e' same = same

-- two parts as long as two others
parts_size : (f g f' g' : Expression) → size f' ≡ size f → size g' ≡ size g → length (bytes f' ++ bytes g') ≡ length (bytes f ++ bytes g)
parts_size f g f' g' left right = simp length-append (omega arith)

pub substituted_size : (v x : ℕ) (e : Expression) → size (substitute v x e) ≡ size e
unfolding bytes substitute
substituted_size v x stop = refl
substituted_size v x (site_call s p) = refl
substituted_size v x (definition_call i p) = refl
substituted_size v x (parallel f g) = ap suc (parts_size f g _ _ (substituted_size v x f) (substituted_size v x g))
substituted_size v x (sequential y f g) = ap (λ n. suc (suc n)) (parts_size f g _ _ (substituted_size v x f) (either_size (eqb x y) g _ (substituted_size v x g)))
substituted_size v x (pruning y f g) = ap (λ n. suc (suc n)) (parts_size f g _ _ (either_size (eqb x y) f _ (substituted_size v x f)) (substituted_size v x g))
substituted_size v x (pending k s w c) = refl
