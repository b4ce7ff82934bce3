-- By a meaning whose windows have no end nothing lapses.
use Rattle.std.proofs.Common.{◌≡◌, ℕ, refl, ap₂}
use Rattle.orc.specs.Meaning.{within_reach}
use Rattle.orc.specs.Expressions.{Expression, stop, site_call, definition_call, parallel, sequential, pruning, pending}
use Rattle.orc.specs.Calls.{lapsed}
use Rattle.walks.specs.Endless.{endless}

pub nothing_lapses : (n : ℕ) (e : Expression) → lapsed endless n e ≡ e
unfolding lapsed within_reach
nothing_lapses n stop = refl
nothing_lapses n (site_call s p) = refl
nothing_lapses n (definition_call i p) = refl
nothing_lapses n (parallel f g) = ap₂ parallel (nothing_lapses n f) (nothing_lapses n g)
nothing_lapses n (sequential x f g) = ap₂ (sequential x) (nothing_lapses n f) (nothing_lapses n g)
nothing_lapses n (pruning x f g) = ap₂ (pruning x) (nothing_lapses n f) (nothing_lapses n g)
nothing_lapses n (pending k s v c) = refl
