-- The calls of an expression that can be made now, and those that were made and wait. Assumes nothing.
use Rattle.std.specs.Prelude.{◌≡◌, ℕ, ◌+◌, Bool, cond, not, List, [], ◌∷◌, ◌++◌}
use Rattle.std.specs.List.{AllByRecursion}
use Rattle.orc.specs.Meaning.{Handle, Meaning, handle, within_reach}
use Rattle.orc.specs.Expressions.{Parameter, value, variable, Expression, stop, site_call, definition_call, parallel, sequential, pruning, pending, Definition}

-- A call is due if its parameter is a value, unless it stands in the right part of a sequential, which has not begun.
abbrev pub ready : Parameter → ℕ
ready (value v) = 1
ready (variable x) = 0

-- how many calls are due; they are counted from the left, from 0
unfoldable pub due_count : Expression → ℕ
due_count stop = 0
due_count (site_call s p) = ready p
due_count (definition_call i p) = ready p
due_count (parallel f g) = due_count f + due_count g
due_count (sequential x f g) = due_count f
due_count (pruning x f g) = due_count f + due_count g
due_count (pending k s v c) = 0

-- a pending call: its ticket, its site, the value it was called with, and the clock of the call
pub record Pending : Type 0 where
  pub ticket : ℕ
  pub site : ℕ
  pub argument : ℕ
  pub since : ℕ

-- all pending calls of an expression, from the left
unfoldable pub pending_calls : Expression → List Pending
pending_calls stop = []
pending_calls (site_call s p) = []
pending_calls (definition_call i p) = []
pending_calls (parallel f g) = pending_calls f ++ pending_calls g
pending_calls (sequential x f g) = pending_calls f ++ pending_calls g
pending_calls (pruning x f g) = pending_calls f ++ pending_calls g
pending_calls (pending k s v c) = record { ticket = k; site = s; argument = v; since = c } ∷ []

abbrev pub handle_at : Meaning → Pending → Handle
handle_at m p = handle m p.site p.argument

-- At tick n a pending call that no window reaches lapses.
abbrev pub lapses : Meaning → ℕ → Pending → Bool
lapses m n p = not (within_reach (handle_at m p) p.since n)

-- an expression in which each pending call that lapses at tick n has become stop
unfoldable pub lapsed : Meaning → ℕ → Expression → Expression
lapsed m n stop = stop
lapsed m n (site_call s p) = site_call s p
lapsed m n (definition_call i p) = definition_call i p
lapsed m n (parallel f g) = parallel (lapsed m n f) (lapsed m n g)
lapsed m n (sequential x f g) = sequential x (lapsed m n f) (lapsed m n g)
lapsed m n (pruning x f g) = pruning x (lapsed m n f) (lapsed m n g)
lapsed m n (pending k s v c) = cond (within_reach (handle m s v) c n) (pending k s v c) stop

-- no pending call anywhere
abbrev pub NothingPending : Expression → Type 0
NothingPending e = pending_calls e ≡ []

-- no definition holds one
abbrev pub NothingPendingIn : List Definition → Type 0
NothingPendingIn ds = AllByRecursion (λ (d : Definition). NothingPending d.body) ds

-- no pending call in the right part of a sequential
unfoldable pub RightsUnbegun : Expression → Type 0
RightsUnbegun stop = Unit {0}
RightsUnbegun (site_call s p) = Unit {0}
RightsUnbegun (definition_call i p) = Unit {0}
RightsUnbegun (parallel f g) = RightsUnbegun f × RightsUnbegun g
RightsUnbegun (sequential x f g) = RightsUnbegun f × NothingPending g
RightsUnbegun (pruning x f g) = RightsUnbegun f × RightsUnbegun g
RightsUnbegun (pending k s v c) = Unit {0}
