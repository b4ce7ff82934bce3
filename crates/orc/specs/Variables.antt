-- Substitution of a value, and free variables. Assumes nothing.
use Rattle.std.specs.Prelude.{ℕ, Bool, false, cond, not, ◌&&◌, ◌||◌, ◌==◌}
use Rattle.orc.specs.Expressions.{Parameter, value, variable, Expression, stop, site_call, definition_call, parallel, sequential, pruning, pending}

-- v for x in a parameter
abbrev pub replaced : ℕ → ℕ → Parameter → Parameter
replaced v x (value w) = value w
replaced v x (variable y) = cond (x == y) (value v) (variable y)

-- v for each free x. A sequential binds its variable in its right part and a pruning in its left part: a part in which x
-- is bound again is left as it is.
unfoldable pub substitute : ℕ → ℕ → Expression → Expression
substitute v x stop = stop
substitute v x (site_call s p) = site_call s (replaced v x p)
substitute v x (definition_call i p) = definition_call i (replaced v x p)
substitute v x (parallel f g) = parallel (substitute v x f) (substitute v x g)
substitute v x (sequential y f g) = sequential y (substitute v x f) (cond (x == y) g (substitute v x g))
substitute v x (pruning y f g) = pruning y (cond (x == y) f (substitute v x f)) (substitute v x g)
substitute v x (pending k s w c) = pending k s w c

-- v for each free x of a part in which y is bound
abbrev pub substitute_below : ℕ → ℕ → ℕ → Expression → Expression
substitute_below v x y e = cond (x == y) e (substitute v x e)

abbrev pub is_variable : ℕ → Parameter → Bool
is_variable x (value v) = false
is_variable x (variable y) = x == y

-- x stands free somewhere
unfoldable pub free : ℕ → Expression → Bool
free x stop = false
free x (site_call s p) = is_variable x p
free x (definition_call i p) = is_variable x p
free x (parallel f g) = free x f || free x g
free x (sequential y f g) = free x f || (not (x == y) && free x g)
free x (pruning y f g) = (not (x == y) && free x f) || free x g
free x (pending k s v c) = false
