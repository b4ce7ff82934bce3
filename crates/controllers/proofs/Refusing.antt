-- The places of the refusals of a call: each has 32 bits. Assumes nothing.
use Rattle.std.proofs.Common.{◌≡◌, ℕ, zero, suc, ◌+◌, ◌≤◌, List, [], ◌∷◌, Some, IfErr, ap, arith, length-append}
use Rattle.std.proofs.lemmas.Option.{none-some}
use Rattle.std.specs.Prelude.{unwrap_or}
use Rattle.std.specs.List.{ContainsAt as Has}
use Rattle.orc.specs.Meaning.{Meaning}
use Rattle.orc.specs.Expressions.{Expression, bytes, size, Definition, World, entry}
use Rattle.orc.specs.Calls.{Pending, lapsed}
use Rattle.orc.specs.Steps.{Act, Leaf, Step, calls, unfolds, replies, parallel_left, parallel_right, sequential_keeps, sequential_spawns, pruning_left, pruning_keeps, pruning_binds}
use Rattle.orc.proofs.Simplifying.{size_simplified}
use Rattle.steps.proofs.Sizes.{substituted_size}
use Rattle.runs.specs.declared.call.Call.{Call}
use Rattle.runs.specs.declared.call.Call.TheVariants.{Go, Answer, Wait}
use Rattle.runs.specs.declared.refusal.Refusal.{Refusal}
use Rattle.runs.specs.Refusals.{told}
use Rattle.runs.specs.States.{State}
use Rattle.runs.specs.Outcomes.{Response, Takes, by_go, by_answer, settled, Refuses, is_not_loaded, is_none_due, is_not_standing, is_outside_every_window, is_record_full, is_outgrown, is_due_first, is_overdue, is_clock_end, Outcome, refuses, takes, passes}
use Rattle.runs.specs.Facts.{BodiesFit, StateFits}
use Rattle.runs.specs.Recording.{InRange}
use Rattle.runs.proofs.Finding.{first_has}
use Rattle.runs.proofs.Sizes.{size_lapsed, due_fewer}
use Rattle.controllers.specs.Told.{greatest}

-- A transition leaves at most twice the form, and a body.
step_size : {W : World} {t k : ℕ} {e e' : Expression} {l : Leaf} {a : Act} {gone : List Pending} → ((i : ℕ) (d : Definition) → entry W.definitions i ≡ Some d → size d.body ≤ 4096) → Step W t k e l a gone e' → size e' ≤ size e + size e + 4096
unfolding bytes
step_size fit calls = omega arith
step_size fit (unfolds {i} {v} d found) = let p = fit i d found in let q = substituted_size v d.formal d.body in omega arith
step_size fit (replies may) = omega arith
step_size fit (parallel_left step) = let p = step_size fit step in simp length-append (omega arith)
step_size fit (parallel_right is step) = let p = step_size fit step in simp length-append (omega arith)
step_size fit (sequential_keeps keeps step) = let p = step_size fit step in simp length-append (omega arith)
step_size fit (sequential_spawns {x} {w} {f} {g} step) = let p = step_size fit step in let q = substituted_size w x g in simp length-append (omega arith)
step_size fit (pruning_left step) = let p = step_size fit step in simp length-append (omega arith)
step_size fit (pruning_keeps is keeps step) = let p = step_size fit step in simp length-append (omega arith)
step_size fit (pruning_binds {x} {w} {f} {g} is step) = let p = substituted_size w x f in simp length-append (omega arith)

-- a definition by its number is one of the list
entry_has : (ds : List Definition) (i : ℕ) (d : Definition) → entry ds i ≡ Some d → Has ds d
entry_has [] i d is = absurd (none-some d is)
entry_has (c ∷ ds) zero d is = (0, omega arith, λ x. ap (λ o. unwrap_or o c) is)
entry_has (c ∷ ds) (suc i) d is = let p = entry_has ds i d is in (suc p.0, (let q = p.1 in omega arith), p.2)

module _ (m : Meaning) (s : State) (bodies : BodiesFit s.definitions) (fits : StateFits s) where
  bodies_short : (i : ℕ) (d : Definition) → entry s.definitions i ≡ Some d → size d.body ≤ 4096
  bodies_short i d is = (bodies d (entry_has s.definitions i d is)).3

  taken_size : {c : Call} {a : Act} {gone : List Pending} {e : Expression} → Takes m s c a gone e → size e ≤ 12288
  taken_size (by_go step) = let p = step_size bodies_short step in let q = fits.3.0 in omega arith
  taken_size (by_answer step) = let p = step_size bodies_short step in let q = fits.3.0 in omega arith

  settled_size : (c : Call) (e : Expression) → size (settled m s c e) ≤ size e
  settled_size (Go n) e = let p = size_simplified (lapsed m s.clock e) in let q = size_lapsed m s.clock e in omega arith
  settled_size (Answer k v) e = size_simplified e
  settled_size (Wait d) e = let p = size_simplified (lapsed m (s.clock + d) e) in let q = size_lapsed m (s.clock + d) e in omega arith

  -- the number that the call names has 32 bits
  refused_near : (c : Call) (f : Refusal) → InRange c → Refuses m s c f → (told f).place ≤ greatest
  refused_near c f ranged (is_not_loaded l) = omega arith
  refused_near (Go n) f ranged (is_none_due l few) = let p = due_fewer s.expression in let q = fits.3.0 in omega arith
  refused_near (Answer k v) f ranged (is_not_standing l none) = let q = ranged.0 in omega arith
  refused_near (Answer k v) f ranged (is_outside_every_window p l has cannot) = let q = ranged.0 in omega arith
  refused_near c f ranged (is_record_full l taken full) = omega arith
  refused_near c f ranged (is_outgrown {e} l taken room large) = let p = taken_size taken in let q = settled_size c e in omega arith
  refused_near (Wait d) f ranged (is_due_first l some due) = let p = due_fewer s.expression in let q = fits.3.0 in omega arith
  refused_near (Wait d) f ranged (is_overdue {p} l none first) = let q = fits.1 p (first_has first) in let k = fits.3.3 in let n = fits.3.1 in let t = q.1 in omega arith
  refused_near (Wait d) f ranged (is_clock_end l pass past) = let q = fits.3.2 in omega arith

  pub told_near : (c : Call) (r : Response) (s' : State) → InRange c → Outcome m s c r s' → IfErr r (λ f. (told f).place ≤ greatest)
  told_near c r s' ranged (refuses h) = refused_near c _ ranged h
  told_near c r s' ranged (takes l h room fits') = tt
  told_near c r s' ranged (passes l h in_time) = tt
