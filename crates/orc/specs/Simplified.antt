-- Simplification by four identities, from the innermost parts outward. Assumes nothing.
use Rattle.std.specs.Prelude.{ℕ, Bool, true, false, cond}
use Rattle.orc.specs.Expressions.{Expression, stop, site_call, definition_call, parallel, sequential, pruning, pending}
use Rattle.orc.specs.Variables.{free}

abbrev pub is_stop : Expression → Bool
is_stop stop = true
is_stop (site_call s p) = false
is_stop (definition_call i p) = false
is_stop (parallel f g) = false
is_stop (sequential x f g) = false
is_stop (pruning x f g) = false
is_stop (pending k s v c) = false

-- a parallel with a stop on either side is its other part
unfoldable pub parallel_of : Expression → Expression → Expression
parallel_of f g = cond (is_stop f) g (cond (is_stop g) f (parallel f g))

-- a sequential with a stop on the left is stop
unfoldable pub sequential_of : ℕ → Expression → Expression → Expression
sequential_of x f g = cond (is_stop f) stop (sequential x f g)

-- a pruning with a stop on the right is its left part, if its variable is not free there
unfoldable pub pruning_of : ℕ → Expression → Expression → Expression
pruning_of x f g = cond (is_stop g) (cond (free x f) (pruning x f g) f) (pruning x f g)

unfoldable pub simplified : Expression → Expression
simplified stop = stop
simplified (site_call s p) = site_call s p
simplified (definition_call i p) = definition_call i p
simplified (parallel f g) = parallel_of (simplified f) (simplified g)
simplified (sequential x f g) = sequential_of x (simplified f) (simplified g)
simplified (pruning x f g) = pruning_of x (simplified f) (simplified g)
simplified (pending k s v c) = pending k s v c
