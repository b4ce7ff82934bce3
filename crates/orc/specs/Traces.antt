-- Timed traces: what an expression can be seen to do, composed from the traces of its parts. Assumes nothing.
--
-- A trace is a list of events and an end. Its ticks are those of the clock, and every rule has the tick at which the
-- expression begins. The depth bounds how often definitions are unfolded within each other.
use Rattle.std.specs.Prelude.{◌≡◌, ℕ, suc, ◌≤◌, Bool, true, false, List, [], ◌∷◌, ◌++◌, Some, ◌==◌, nat_eq}
use Rattle.orc.specs.Meaning.{Handle, handle, can_stand, can_reply}
use Rattle.orc.specs.Expressions.{value, variable, Expression, stop, site_call, definition_call, parallel, sequential, pruning, Definition, World, entry}
use Rattle.orc.specs.Variables.{substitute, substitute_below}
use Rattle.orc.specs.Steps.{Act, called, inner, out, Keeps}
use Rattle.orc.specs.Executions.{Event, did, arrived, tick}

-- ticks never fall, from t on, and never pass n
abbrev pub Timely : ℕ → List Event → ℕ → Type 0
Timely t [] n = t ≤ n
Timely t (m ∷ ms) n = (t ≤ tick m) × Timely (tick m) ms n

-- arrivals alone
pub data Idle : List Event → Type 0 where
  idle_end : Idle []
  idle_more : {t x v : ℕ} {ms : List Event} → Idle ms → Idle (arrived t x v ∷ ms)

-- arrivals alone, and none for x
pub data IdleBut (x : ℕ) : List Event → Type 0 where
  idle_but_end : IdleBut x []
  idle_but_more : {t y v : ℕ} {ms : List Event} → (x == y) ≡ false → IdleBut x ms → IdleBut x (arrived t y v ∷ ms)

-- no publication
pub data Silent : List Event → Type 0 where
  silent_end : Silent []
  silent_act : {t : ℕ} {a : Act} {ms : List Event} → Keeps a → Silent ms → Silent (did t a ∷ ms)
  silent_arrival : {t x v : ℕ} {ms : List Event} → Silent ms → Silent (arrived t x v ∷ ms)

-- Merged own us vs ms: ms holds us and vs in any way that keeps both orders. Arrivals are shared: each stands in both, and
-- once in ms. But those of a variable that is the second's own stand in vs alone.
pub data Merged (own : ℕ → Bool) : List Event → List Event → List Event → Type 0 where
  merged_end : Merged own [] [] []
  merged_first : {t : ℕ} {a : Act} {us vs ms : List Event} → Merged own us vs ms → Merged own (did t a ∷ us) vs (did t a ∷ ms)
  merged_second : {t : ℕ} {a : Act} {us vs ms : List Event} → Merged own us vs ms → Merged own us (did t a ∷ vs) (did t a ∷ ms)
  merged_shared : {t x v : ℕ} {us vs ms : List Event} → own x ≡ false → Merged own us vs ms → Merged own (arrived t x v ∷ us) (arrived t x v ∷ vs) (arrived t x v ∷ ms)
  merged_own : {t x v : ℕ} {us vs ms : List Event} → own x ≡ true → Merged own us vs ms → Merged own us (arrived t x v ∷ vs) (arrived t x v ∷ ms)

-- all arrivals are shared
abbrev pub nobody : ℕ → Bool
nobody x = false

-- A trace of a handle, for a call made at tick c: no reply up to the end, at which the call can still stand; or one reply,
-- which a window admits, and then any end.
pub data HandleTrace (h : Handle) (c : ℕ) : List Event → ℕ → Type 0 where
  unanswered : {ms : List Event} {n : ℕ} → Idle ms → can_stand h c n ≡ true → HandleTrace h c ms n
  answered : {before behind : List Event} {n : ℕ} (t w : ℕ) → Idle before → Idle behind → can_reply h c t w ≡ true → HandleTrace h c (before ++ (did t (out w) ∷ behind)) n

mutual
  -- Trace W d t e ms n: a trace of e at depth d, begun at tick t, with the events ms and the end n.
  pub data Trace (W : World) : ℕ → ℕ → Expression → List Event → ℕ → Type 0 where
    -- at depth 0 nothing is seen yet
    shallow : {t n : ℕ} {e : Expression} {ms : List Event} → Idle ms → n ≡ t → Trace W 0 t e ms n
    of_stop : {d t n : ℕ} {ms : List Event} → Idle ms → Trace W (suc d) t stop ms n
    -- a site call with a value: not made yet, or made at once, and then a trace of its handle
    of_site_unmade : {d t n s v : ℕ} {ms : List Event} → Idle ms → n ≡ t → Trace W (suc d) t (site_call s (value v)) ms n
    of_site : {d t n s v : ℕ} {before ms : List Event} → Idle before → HandleTrace (handle W.meaning s v) t ms n → Trace W (suc d) t (site_call s (value v)) (before ++ (did t (called s v) ∷ ms)) n
    -- a definition call with a value likewise, and then a trace of the body, the value put in, one depth lower
    of_definition_unmade : {d t n i v : ℕ} {ms : List Event} → Idle ms → n ≡ t → Trace W (suc d) t (definition_call i (value v)) ms n
    of_definition : {d t n i v : ℕ} {before ms : List Event} (f : Definition) → entry W.definitions i ≡ Some f → Idle before → Trace W d t (substitute v f.formal f.body) ms n → Trace W (suc d) t (definition_call i (value v)) (before ++ (did t inner ∷ ms)) n
    -- either call with a variable: no value for it arrives, or one does, and the call with that value begins then
    of_site_blocked : {d t n s x : ℕ} {ms : List Event} → IdleBut x ms → Trace W (suc d) t (site_call s (variable x)) ms n
    of_site_freed : {d t n s x τ v : ℕ} {before ms : List Event} → IdleBut x before → Trace W (suc d) τ (site_call s (value v)) ms n → Trace W (suc d) t (site_call s (variable x)) (before ++ (arrived τ x v ∷ ms)) n
    of_definition_blocked : {d t n i x : ℕ} {ms : List Event} → IdleBut x ms → Trace W (suc d) t (definition_call i (variable x)) ms n
    of_definition_freed : {d t n i x τ v : ℕ} {before ms : List Event} → IdleBut x before → Trace W (suc d) τ (definition_call i (value v)) ms n → Trace W (suc d) t (definition_call i (variable x)) (before ++ (arrived τ x v ∷ ms)) n
    -- a parallel: traces of both parts with one end, merged
    of_parallel : {d t n : ℕ} {f g : Expression} {us vs ms : List Event} → Trace W (suc d) t f us n → Trace W (suc d) t g vs n → Merged nobody us vs ms → Trace W (suc d) t (parallel f g) ms n
    -- a sequential: a trace of the left part, each publication replaced by the trace of a copy of the right part
    of_sequential : {d t n x : ℕ} {f g : Expression} {us ms : List Event} → Trace W (suc d) t f us n → Spawned W (suc d) x g us n ms → Trace W (suc d) t (sequential x f g) ms n
    -- a pruning whose right part publishes nothing: no value for x reaches the left part
    of_pruning_open : {d t n x : ℕ} {f g : Expression} {us vs ms : List Event} → Trace W (suc d) t f us n → Trace W (suc d) t g vs n → Silent vs → Merged (nat_eq x) us vs ms → Trace W (suc d) t (pruning x f g) ms n
    -- a pruning whose right part publishes w at tick τ and ends there: w arrives for x in the left part, which goes on alone
    of_pruning_bound : {d t n x : ℕ} {f g : Expression} {us vs ms : List Event} (τ w : ℕ) (rest : List Event) → Trace W (suc d) t f (us ++ (arrived τ x w ∷ rest)) n → Trace W (suc d) t g (vs ++ (did τ (out w) ∷ [])) τ → Silent vs → Merged (nat_eq x) us vs ms → Trace W (suc d) t (pruning x f g) (ms ++ (did τ inner ∷ rest)) n

  -- Spawned W d x g us n ms: us are the events of the left part of a sequential with x, g its right part with the
  -- arrivals so far put in, and ms are the events of both, copies of g included.
  pub data Spawned (W : World) : ℕ → ℕ → Expression → List Event → ℕ → List Event → Type 0 where
    spawned_end : {d x n : ℕ} {g : Expression} → Spawned W d x g [] n []
    spawned_act : {d x n t : ℕ} {g : Expression} {a : Act} {us ms : List Event} → Keeps a → Spawned W d x g us n ms → Spawned W d x g (did t a ∷ us) n (did t a ∷ ms)
    spawned_arrival : {d x n t y v : ℕ} {g : Expression} {us ms : List Event} → Spawned W d x (substitute_below v y x g) us n ms → Spawned W d x g (arrived t y v ∷ us) n (arrived t y v ∷ ms)
    spawned_out : {d x n t w : ℕ} {g : Expression} {us vs ws ms : List Event} → Spawned W d x g us n vs → Trace W d t (substitute w x g) ws n → Merged nobody vs ws ms → Spawned W d x g (did t (out w) ∷ us) n (did t inner ∷ ms)
