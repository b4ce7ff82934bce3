-- The frames of an expression: the operators that take a reply. Assumes nothing.
use Rattle.std.specs.Prelude.{ℕ, ◌+◌, ◌-◌, ◌<◌, ◌≤◌, cond, IfSome, Some, None, Option, nat_lt}
use Rattle.std.specs.Option.{option_or}
use Rattle.std.proofs.Common.{le_refl, zero-le}
use Rattle.std.proofs.Math.Nat.{add-le-add}
use Rattle.orc.specs.Expressions.{Expression, stop, site_call, definition_call, parallel, sequential, pruning, pending, size}
use Rattle.places.specs.declared.stretch.Stretch.{Stretch}

-- a stretch, by so many bytes further on
abbrev pub further : ℕ → Stretch → Stretch
further n s = record { at = n + s.at; end = n + s.end; in_order = add-le-add (le_refl n) s.in_order }

abbrev pub moved : ℕ → Option Stretch → Option Stretch
moved n None = None
moved n (Some s) = Some (further n s)

-- the stretch of n bytes from the beginning on
abbrev pub first_bytes : ℕ → Stretch
first_bytes n = record { at = 0; end = n; in_order = zero-le }

-- a stretch, if there is one, lies within the first n bytes and is not empty
abbrev pub Within : ℕ → Option Stretch → Type 0
Within n o = IfSome o (λ s. (s.at < s.end) × (s.end ≤ n))

-- by where the place p lies: before the first part, which begins behind w bytes, in it, as it has n bytes, or in the second
abbrev pub by_part : ℕ → ℕ → ℕ → Option Stretch → Option Stretch → Option Stretch
by_part p w n first second = cond (nat_lt p w) None (cond (nat_lt p (w + n)) first second)

-- The nearest frame around a place in the bytes of the expression: a sequential that has the place in its left part, or a
-- pruning that has it in its right part.
unfoldable pub nearest_frame : ℕ → Expression → Option Stretch
nearest_frame p stop = None
nearest_frame p (site_call s a) = None
nearest_frame p (definition_call i a) = None
nearest_frame p (parallel f g) = by_part p 1 (size f) (moved 1 (nearest_frame (p - 1) f)) (moved (1 + size f) (nearest_frame (p - (1 + size f)) g))
nearest_frame p (sequential x f g) = by_part p 2 (size f) (option_or (moved 2 (nearest_frame (p - 2) f)) (Some (first_bytes (size (sequential x f g))))) (moved (2 + size f) (nearest_frame (p - (2 + size f)) g))
nearest_frame p (pruning x f g) = by_part p 2 (size f) (moved 2 (nearest_frame (p - 2) f)) (option_or (moved (2 + size f) (nearest_frame (p - (2 + size f)) g)) (Some (first_bytes (size (pruning x f g)))))
nearest_frame p (pending k s v c) = None
