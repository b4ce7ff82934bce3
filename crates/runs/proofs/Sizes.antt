-- The size of a form. Assumes nothing.
use Rattle.std.proofs.Common.{ℕ, ◌≤◌, arith, length-append}
use Rattle.std.proofs.lemmas.Bool.{cond_both}
use Rattle.orc.specs.Meaning.{Meaning, handle, within_reach}
use Rattle.orc.specs.Expressions.{value, variable, Expression, stop, site_call, definition_call, parallel, sequential, pruning, pending, bytes, size}
use Rattle.orc.specs.Calls.{due_count, lapsed}

-- Lapsing makes no form longer.
pub size_lapsed : (m : Meaning) (n : ℕ) (e : Expression) → size (lapsed m n e) ≤ size e
unfolding bytes lapsed
size_lapsed m n stop = omega arith
size_lapsed m n (site_call s p) = omega arith
size_lapsed m n (definition_call i p) = omega arith
size_lapsed m n (parallel f g) = let p = size_lapsed m n f in let q = size_lapsed m n g in simp length-append (omega arith)
size_lapsed m n (sequential x f g) = let p = size_lapsed m n f in let q = size_lapsed m n g in simp length-append (omega arith)
size_lapsed m n (pruning x f g) = let p = size_lapsed m n f in let q = size_lapsed m n g in simp length-append (omega arith)
size_lapsed m n (pending k s v c) = cond_both (within_reach (handle m s v) c n) (pending k s v c) stop (λ e. size e ≤ 12) (λ _. omega arith) (λ _. omega arith)

-- A form is longer than its due calls are many.
pub due_fewer : (e : Expression) → due_count e ≤ size e
unfolding bytes due_count
due_fewer stop = omega arith
due_fewer (site_call s (value v)) = omega arith
due_fewer (site_call s (variable x)) = omega arith
due_fewer (definition_call i (value v)) = omega arith
due_fewer (definition_call i (variable x)) = omega arith
due_fewer (parallel f g) = let p = due_fewer f in let q = due_fewer g in simp length-append (omega arith)
due_fewer (sequential x f g) = let p = due_fewer f in simp length-append (omega arith)
due_fewer (pruning x f g) = let p = due_fewer f in let q = due_fewer g in simp length-append (omega arith)
due_fewer (pending k s v c) = omega arith
