-- What an expression may do: the transition rules, and the passing of time. Assumes nothing.
use Rattle.std.specs.Prelude.{◌≡◌, ℕ, ◌+◌, ◌≤◌, true, List, [], Some}
use Rattle.orc.specs.Meaning.{handle, can_stand, can_reply}
use Rattle.orc.specs.Expressions.{Parameter, value, variable, Expression, stop, site_call, definition_call, parallel, sequential, pruning, pending, Definition, World, entry}
use Rattle.orc.specs.Variables.{substitute}
use Rattle.orc.specs.Calls.{due_count, Pending, pending_calls}

-- what a transition shows: a call of a site with a value, an inner step, or the publication of a value
pub data Act : Type 0 where
  called : ℕ → ℕ → Act
  inner : Act
  out : ℕ → Act

-- an act that publishes nothing
pub data Keeps : Act → Type 0 where
  keeps_call : {s v : ℕ} → Keeps (called s v)
  keeps_inner : Keeps inner

-- the call that moves: the due call of a number, or the pending call of a ticket, with the value of its reply
pub data Leaf : Type 0 where
  due : ℕ → Leaf
  reply : ℕ → ℕ → Leaf

-- the leaf as it is numbered with m due calls to the left of it
abbrev pub behind : ℕ → Leaf → Leaf
behind m (due n) = due (m + n)
behind m (reply j w) = reply j w

-- Step W t k e l a gone e': at tick t, in the world W, the leaf l of e moves with act a, and e becomes e'. A site call that
-- is made gets the ticket k. The pending calls that the transition withdraws are gone: those beside the one that replied
-- in the right part of the pruning that acted, and none elsewhere.
pub data Step (W : World) (t k : ℕ) : Expression → Leaf → Act → List Pending → Expression → Type 0 where
  -- a site call with a value is made, and waits for its reply
  calls : {s v : ℕ} → Step W t k (site_call s (value v)) (due 0) (called s v) [] (pending k s v t)
  -- a definition call with a value becomes the definition's body, with the value for its formal
  unfolds : {i v : ℕ} (d : Definition) → entry W.definitions i ≡ Some d → Step W t k (definition_call i (value v)) (due 0) inner [] (substitute v d.formal d.body)
  -- a pending call gets a reply that a window admits, and publishes it
  replies : {j s v c w : ℕ} → can_reply (handle W.meaning s v) c t w ≡ true → Step W t k (pending j s v c) (reply j w) (out w) [] stop
  -- either part of a parallel moves
  parallel_left : {f g f' : Expression} {l : Leaf} {a : Act} {gone : List Pending} → Step W t k f l a gone f' → Step W t k (parallel f g) l a gone (parallel f' g)
  parallel_right : {f g g' : Expression} {l l' : Leaf} {a : Act} {gone : List Pending} → l' ≡ behind (due_count f) l → Step W t k g l a gone g' → Step W t k (parallel f g) l' a gone (parallel f g')
  -- the left part of a sequential moves and publishes nothing
  sequential_keeps : {x : ℕ} {f g f' : Expression} {l : Leaf} {a : Act} {gone : List Pending} → Keeps a → Step W t k f l a gone f' → Step W t k (sequential x f g) l a gone (sequential x f' g)
  -- it publishes a value: a copy of the right part begins beside it, with the value for x
  sequential_spawns : {x w : ℕ} {f g f' : Expression} {l : Leaf} {gone : List Pending} → Step W t k f l (out w) gone f' → Step W t k (sequential x f g) l inner gone (parallel (sequential x f' g) (substitute w x g))
  -- the left part of a pruning moves
  pruning_left : {x : ℕ} {f g f' : Expression} {l : Leaf} {a : Act} {gone : List Pending} → Step W t k f l a gone f' → Step W t k (pruning x f g) l a gone (pruning x f' g)
  -- the right part moves and publishes nothing
  pruning_keeps : {x : ℕ} {f g g' : Expression} {l l' : Leaf} {a : Act} {gone : List Pending} → l' ≡ behind (due_count f) l → Keeps a → Step W t k g l a gone g' → Step W t k (pruning x f g) l' a gone (pruning x f g')
  -- it publishes a value, which is put in for x in the left part; the right part ends, and its other pending calls with it
  pruning_binds : {x w : ℕ} {f g g' : Expression} {l l' : Leaf} {gone : List Pending} → l' ≡ behind (due_count f) l → Step W t k g l (out w) gone g' → Step W t k (pruning x f g) l' inner (pending_calls g') (substitute w x f)

-- No time passes over a call that is due; a call that waits for its parameter lets time pass.
abbrev pub Waits : ℕ → ℕ → Parameter → Type 0
Waits t n (value v) = n ≡ t
Waits t n (variable x) = t ≤ n

-- Time can pass from tick t to tick n with no event: no call is due, unless n is t, and each pending call that has begun
-- can stand unanswered at n.
abbrev pub Pass : World → ℕ → ℕ → Expression → Type 0
Pass W t n stop = t ≤ n
Pass W t n (site_call s p) = Waits t n p
Pass W t n (definition_call i p) = Waits t n p
Pass W t n (parallel f g) = Pass W t n f × Pass W t n g
Pass W t n (sequential x f g) = Pass W t n f
Pass W t n (pruning x f g) = Pass W t n f × Pass W t n g
Pass W t n (pending k s v c) = (t ≤ n) × (can_stand (handle W.meaning s v) c n ≡ true)
