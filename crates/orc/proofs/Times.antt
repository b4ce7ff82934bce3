-- How time passes over an expression and its executions: piece by piece, and never back. Assumes nothing.
use Rattle.std.proofs.Common.{ℕ, ◌≤◌, List, [], ◌∷◌, ◌++◌, ◌∙◌, le_trans, arith}
use Rattle.orc.specs.Meaning.{handle}
use Rattle.orc.specs.Expressions.{Parameter, value, variable, Expression, stop, site_call, definition_call, parallel, sequential, pruning, pending, World}
use Rattle.orc.specs.Steps.{Waits, Pass}
use Rattle.orc.specs.Executions.{Event, tick, Execution}
use Rattle.orc.specs.Traces.{Timely}
use Rattle.orc.proofs.Ages.{stands_no_older}

waits_ordered : (t n : ℕ) (p : Parameter) → Waits t n p → t ≤ n
waits_ordered t n (value v) h = omega arith
waits_ordered t n (variable x) h = h

waits_cut : (t u n : ℕ) (p : Parameter) → t ≤ u → u ≤ n → Waits t n p → Waits t u p × Waits u n p
waits_cut t u n (value v) a b h = (omega arith, omega arith)
waits_cut t u n (variable x) a b h = (a, b)

waits_joined : (t u n : ℕ) (p : Parameter) → Waits t u p → Waits u n p → Waits t n p
waits_joined t u n (value v) a b = b ∙ a
waits_joined t u n (variable x) a b = le_trans a b

-- two pairs, the firsts together and the seconds together
exchanged : {A B C D : Type 0} → A × B → C × D → (A × C) × (B × D)
exchanged p q = ((p.0, q.0), (p.1, q.1))

module _ (W : World) where
  pub pass_ordered : (t n : ℕ) (e : Expression) → Pass W t n e → t ≤ n
  pass_ordered t n stop h = h
  pass_ordered t n (site_call s p) h = waits_ordered t n p h
  pass_ordered t n (definition_call i p) h = waits_ordered t n p h
  pass_ordered t n (parallel f g) h = pass_ordered t n f h.0
  pass_ordered t n (sequential x f g) h = pass_ordered t n f h
  pass_ordered t n (pruning x f g) h = pass_ordered t n f h.0
  pass_ordered t n (pending k s v c) h = h.0

  -- Time that can pass from t to n can pass up to any tick between, and from there on.
  pub pass_cut : (t u n : ℕ) (e : Expression) → t ≤ u → u ≤ n → Pass W t n e → Pass W t u e × Pass W u n e
  pass_cut t u n stop a b h = (a, b)
  pass_cut t u n (site_call s p) a b h = waits_cut t u n p a b h
  pass_cut t u n (definition_call i p) a b h = waits_cut t u n p a b h
  pass_cut t u n (parallel f g) a b h = exchanged (pass_cut t u n f a b h.0) (pass_cut t u n g a b h.1)
  pass_cut t u n (sequential x f g) a b h = pass_cut t u n f a b h
  pass_cut t u n (pruning x f g) a b h = exchanged (pass_cut t u n f a b h.0) (pass_cut t u n g a b h.1)
  pass_cut t u n (pending k s v c) a b h = ((a, stands_no_older c n c u (omega arith) (handle W.meaning s v) h.1), (b, h.1))

  pub pass_joined : (t u n : ℕ) (e : Expression) → Pass W t u e → Pass W u n e → Pass W t n e
  pass_joined t u n stop a b = le_trans a b
  pass_joined t u n (site_call s p) a b = waits_joined t u n p a b
  pass_joined t u n (definition_call i p) a b = waits_joined t u n p a b
  pass_joined t u n (parallel f g) a b = (pass_joined t u n f a.0 b.0, pass_joined t u n g a.1 b.1)
  pass_joined t u n (sequential x f g) a b = pass_joined t u n f a b
  pass_joined t u n (pruning x f g) a b = (pass_joined t u n f a.0 b.0, pass_joined t u n g a.1 b.1)
  pass_joined t u n (pending k s v c) a b = (le_trans a.0 b.0, b.1)

  -- An execution is in time; it can begin earlier, if time can pass up to its beginning; and up to its first event it can
  -- begin later.
  pub execution_timely : (t n : ℕ) (e : Expression) (ms : List Event) → Execution W t e ms n → Timely t ms n
  execution_timely t n e [] r = pass_ordered t n e r
  execution_timely t n e (m ∷ ms) r = (pass_ordered t (tick m) e r.1.passes, execution_timely (tick m) n r.0 ms r.2)

  pub execution_earlier : (t u n : ℕ) (e : Expression) (ms : List Event) → Pass W t u e → Execution W u e ms n → Execution W t e ms n
  execution_earlier t u n e [] p r = pass_joined t u n e p r
  execution_earlier t u n e (m ∷ ms) p r = (r.0, record { passes = pass_joined t u (tick m) e p r.1.passes; moves = r.1.moves }, r.2)

  pub execution_later : (t u n : ℕ) (e : Expression) (ms : List Event) → t ≤ u → Timely u ms n → Execution W t e ms n → Pass W t u e × Execution W u e ms n
  execution_later t u n e [] a h r = pass_cut t u n e a h r
  execution_later t u n e (m ∷ ms) a h r = let c = pass_cut t u (tick m) e a h.0 r.1.passes in (c.0, (r.0, record { passes = c.1; moves = r.1.moves }, r.2))

-- the same of a list of events in time
pub timely_ordered : (t n : ℕ) (ms : List Event) → Timely t ms n → t ≤ n
timely_ordered t n [] h = h
timely_ordered t n (m ∷ ms) h = le_trans h.0 (timely_ordered (tick m) n ms h.1)

pub timely_earlier : (t u n : ℕ) (ms : List Event) → t ≤ u → Timely u ms n → Timely t ms n
timely_earlier t u n [] a h = le_trans a h
timely_earlier t u n (m ∷ ms) a h = (le_trans a h.0, h.1)

-- what follows an event is in time
pub timely_behind : (t n : ℕ) (ms : List Event) (m : Event) (ms' : List Event) → Timely t (ms ++ (m ∷ ms')) n → (t ≤ tick m) × Timely (tick m) ms' n
timely_behind t n [] m ms' h = h
timely_behind t n (l ∷ ms) m ms' h = let r = timely_behind (tick l) n ms m ms' h.1 in (le_trans h.0 r.0, r.1)
