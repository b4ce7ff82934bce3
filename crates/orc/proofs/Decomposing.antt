-- An execution of the whole comes apart into executions of the parts, rule by rule; so every execution is a timed trace at
-- some depth. Assumes nothing.
--
-- An execution begins at tick t and ends at n, and u is the tick of its first event. A lemma named -first takes this event
-- apart, where `more` takes apart what follows it.
use Rattle.std.proofs.Common.{◌≡◌, ℕ, zero, suc, ◌<◌, ◌≤◌, max, Bool, true, false, eqb, List, [], ◌∷◌, ◌++◌, length, refl, ◌∙◌, subst, append-nil, le_trans, le_refl, le_of_suc-le-suc, not-suc-le-zero, arith, length-append}
use mathlib.Core.List.{cons≢nil}
use Rattle.std.proofs.lemmas.Bool.{eqb-true}
use Rattle.orc.specs.Meaning.{handle}
use Rattle.orc.specs.Expressions.{Parameter, value, variable, Expression, stop, site_call, definition_call, parallel, sequential, pruning, pending, World}
use Rattle.orc.specs.Variables.{replaced, substitute, substitute_below}
use Rattle.orc.specs.Calls.{Pending, pending_calls, NothingPending}
use Rattle.orc.specs.Steps.{Act, called, inner, out, Keeps, Leaf, Step, calls, unfolds, replies, parallel_left, parallel_right, sequential_keeps, sequential_spawns, pruning_left, pruning_keeps, pruning_binds, Pass}
use Rattle.orc.specs.Executions.{Event, did, arrived, tick, Moves, acts, takes_in, Execution}
use Rattle.orc.specs.Traces.{Idle, idle_end, idle_more, IdleBut, idle_but_end, idle_but_more, Silent, silent_end, silent_act, silent_arrival, Merged, merged_end, merged_first, merged_second, merged_shared, merged_own, nobody, HandleTrace, unanswered, answered, Trace, of_stop, of_site_unmade, of_site, of_definition_unmade, of_definition, of_site_blocked, of_site_freed, of_definition_blocked, of_definition_freed, of_parallel, of_sequential, of_pruning_open, of_pruning_bound, Spawned, spawned_end, spawned_act, spawned_arrival, spawned_out}
use Rattle.orc.specs.Agreement.{NothingPendingWithin, ExecutionsAreTraces}
use Rattle.orc.proofs.Times.{pass_ordered, pass_cut, pass_joined, execution_timely, execution_earlier}
use Rattle.orc.proofs.Unbegun.{parts_nothing_pending, pending_calls_substitute, pending_calls_substitute_below, unfolded_nothing_pending}
use Rattle.orc.proofs.Arrivals.{call_kept, call_freed, pruning_own, pruning_shared, arrives, has_arrived}
use Rattle.orc.proofs.Merging.{merged_shorter}

-- The events of an expression that no arrival changes: it waits to the end, or up to its first act.
data Waited (W : World) (t n : ℕ) (e : Expression) : List Event → Type 0 where
  waited : {ms : List Event} → Idle ms → Pass W t n e → Waited W t n e ms
  acted : {before : List Event} {u : ℕ} {a : Act} {e' : Expression} (ms : List Event) → Idle before → Pass W t u e → Moves W e (did u a) e' → Execution W u e' ms n → Waited W t n e (before ++ (did u a ∷ ms))

-- The events of a call with the variable x, where c makes the call with a parameter: no value comes for it, or one does.
data Blocked (W : World) (n x : ℕ) (c : Parameter → Expression) : List Event → Type 0 where
  blocked : {ms : List Event} → IdleBut x ms → Blocked W n x c ms
  freed : {before : List Event} (u v : ℕ) (ms : List Event) → IdleBut x before → Execution W u (c (value v)) ms n → Blocked W n x c (before ++ (arrived u x v ∷ ms))

blocked_more : {W : World} {n x : ℕ} {c : Parameter → Expression} {u y v : ℕ} {ms : List Event} → eqb x y ≡ false → Blocked W n x c ms → Blocked W n x c (arrived u y v ∷ ms)
blocked_more q (blocked i) = blocked (idle_but_more q i)
blocked_more q (freed u v ms i r) = freed u v ms (idle_but_more q i) r

-- the executions of both parts of a parallel
record ParallelParts (W : World) (t n : ℕ) (f g : Expression) (ms : List Event) : Type 0 where
  lefts : List Event
  rights : List Event
  merged : Merged nobody lefts rights ms
  left : Execution W t f lefts n
  right : Execution W t g rights n

-- how a pruning ends: it stays open, or its right part publishes w at u, after which the left part goes on alone
data Ends (x n : ℕ) : ℕ → List Event → List Event → List Event → Type 0 where
  stays_open : Ends x n n [] [] []
  is_bound : {u w : ℕ} {rest : List Event} → Ends x n u (arrived u x w ∷ rest) (did u (out w) ∷ []) (did u inner ∷ rest)

-- the executions of both parts of a pruning: merged at first, and then its end
data PruningParts (W : World) (x n t : ℕ) (f g : Expression) : List Event → Type 0 where
  pruned : {us us' vs vs' ms ms' : List Event} {k : ℕ} → Merged (eqb x) us vs ms → Silent vs → Ends x n k us' vs' ms' → Execution W t f (us ++ us') n → Execution W t g (vs ++ vs') k → PruningParts W x n t f g (ms ++ ms')

ends_shorter : {x n k : ℕ} {us vs ms : List Event} → Ends x n k us vs ms → (length us ≤ length ms) × (length vs ≤ length ms)
ends_shorter stays_open = (le_refl 0, le_refl 0)
ends_shorter is_bound = (le_refl _, omega arith)

prunes : {W : World} {x n t j : ℕ} {f g : Expression} {us vs ms us' vs' ms' : List Event} {k : ℕ} → Ends x n k us' vs' ms' → Merged (eqb x) us vs ms → Silent vs → Trace W (suc j) t f (us ++ us') n → Trace W (suc j) t g (vs ++ vs') k → Trace W (suc j) t (pruning x f g) (ms ++ ms') n
prunes stays_open m o p q = rw append-nil (of_pruning_open (rw append-nil at p) (rw append-nil at q) o m)
prunes (is_bound {u = u} {w = w} {rest = rest}) m o p q = of_pruning_bound u w rest p q o m

module _ (W : World) where
  waited_more : (t u n x v : ℕ) (e : Expression) {ms : List Event} → Pass W t u e → Waited W u n e ms → Waited W t n e (arrived u x v ∷ ms)
  waited_more t u n x v e p (waited i q) = waited (idle_more i) (pass_joined W t u n e p q)
  waited_more t u n x v e p (acted {u = k} ms i q m r) = acted ms (idle_more i) (pass_joined W t u k e p q) m r

  waits : (t n : ℕ) (e : Expression) (ms : List Event) → ((v x : ℕ) → substitute v x e ≡ e) → Execution W t e ms n → Waited W t n e ms
  waits t n e [] q r = waited idle_end r
  waits t n e (did u a ∷ ms) q r = acted ms idle_end r.1.passes r.1.moves r.2
  waits t n e (arrived u x v ∷ ms) q r = let c = has_arrived W t u n x v e e ms (q v x) r in waited_more t u n x v e c.0 (waits u n e ms q c.1)

  stop_idles : {t n : ℕ} {ms : List Event} → Waited W t n stop ms → Idle ms
  stop_idles (waited i p) = i
  stop_idles (acted ms i p (acts s) r) = elim s [ ]

  pending_waits : (k s v c : ℕ) {t n : ℕ} {ms : List Event} → Waited W t n (pending k s v c) ms → HandleTrace (handle W.meaning s v) c ms n
  unfolding substitute
  pending_waits k s v c (waited i p) = unanswered i p.1
  pending_waits k s v c {n = n} (acted {u = u} ms i p (acts (replies q)) r) = answered u _ i (stop_idles (waits u n stop ms (λ v x. refl) r)) q

  site_waits : (d s v : ℕ) {t n : ℕ} {ms : List Event} → Waited W t n (site_call s (value v)) ms → Trace W (suc d) t (site_call s (value v)) ms n
  unfolding substitute
  site_waits d s v (waited i p) = of_site_unmade i p
  site_waits d s v {n = n} (acted {before = before} {u = u} ms i p (acts {k = k} calls) r) = subst (λ (t : ℕ). Trace W (suc d) t (site_call s (value v)) (before ++ (did u (called s v) ∷ ms)) n) p (of_site i (pending_waits k s v u (waits u n (pending k s v u) ms (λ v x. refl) r)))

  module _ (x : ℕ) (c : Parameter → Expression) (substitutes : (v y : ℕ) → substitute v y (c (variable x)) ≡ c (replaced v y (variable x))) (no_act : (u : ℕ) (a : Act) (e' : Expression) → Moves W (c (variable x)) (did u a) e' → ⊥) where
    blocks : (t n : ℕ) (ms : List Event) → Execution W t (c (variable x)) ms n → Blocked W n x c ms
    blocks t n [] r = blocked idle_but_end
    blocks t n (did u a ∷ ms) r = absurd (no_act u a r.0 r.1.moves)
    blocks t n (arrived u y v ∷ ms) r = by_variable (eqb x y) refl (blocks u n ms)
      where
        by_variable : (b : Bool) → eqb x y ≡ b → (Execution W u (c (variable x)) ms n → Blocked W n x c ms) → Blocked W n x c (arrived u y v ∷ ms)
        by_variable true q more = subst (λ (y : ℕ). Blocked W n x c (arrived u y v ∷ ms)) (eqb-true x y q) (freed u v ms idle_but_end (has_arrived W t u n y v (c (variable x)) (c (value v)) ms (call_freed x c substitutes v y q) r).1)
        by_variable false q more = blocked_more q (more (has_arrived W t u n y v (c (variable x)) (c (variable x)) ms (call_kept x c substitutes v y q) r).1)

  parallel_first : {f g : Expression} {m : Event} {e' : Expression} → Moves W (parallel f g) m e' → (t n : ℕ) (ms : List Event) → Pass W t (tick m) f → Pass W t (tick m) g → Execution W (tick m) e' ms n → ((f g : Expression) → Execution W (tick m) (parallel f g) ms n → ParallelParts W (tick m) n f g ms) → ParallelParts W t n f g (m ∷ ms)
  unfolding substitute
  parallel_first {f} {g} (acts {t = u} {a = a} (parallel_left {f' = f'} s)) t n ms p q r more =
      let c = more f' g r in
      record { lefts = did u a ∷ c.lefts; rights = c.rights; merged = merged_first c.merged; left = (f', record { passes = p; moves = acts s }, c.left); right = execution_earlier W t u n g c.rights q c.right }
  parallel_first {f} {g} (acts {t = u} {a = a} (parallel_right {g' = g'} z s)) t n ms p q r more =
      let c = more f g' r in
      record { lefts = c.lefts; rights = did u a ∷ c.rights; merged = merged_second c.merged; left = execution_earlier W t u n f c.lefts p c.left; right = (g', record { passes = q; moves = acts s }, c.right) }
  parallel_first {f} {g} (takes_in {t = u} {x = x} {v = v}) t n ms p q r more =
      let c = more (substitute v x f) (substitute v x g) r in
      record { lefts = arrived u x v ∷ c.lefts; rights = arrived u x v ∷ c.rights; merged = merged_shared refl c.merged; left = arrives W t u n x v f (substitute v x f) c.lefts refl p c.left; right = arrives W t u n x v g (substitute v x g) c.rights refl q c.right }

  parallel_splits : (t n : ℕ) (f g : Expression) (ms : List Event) → Execution W t (parallel f g) ms n → ParallelParts W t n f g ms
  parallel_splits t n f g [] r = record { lefts = []; rights = []; merged = merged_end; left = r.0; right = r.1 }
  parallel_splits t n f g (m ∷ ms) r = parallel_first r.1.moves t n ms r.1.passes.0 r.1.passes.1 r.2 (λ f g. parallel_splits (tick m) n f g ms)

  -- what can stay at its tick can do so after it has published
  out_stays : {t k : ℕ} {e : Expression} {l : Leaf} {w : ℕ} {gone : List Pending} {e' : Expression} → Step W t k e l (out w) gone e' → Pass W t t e → Pass W t t e'
  out_stays (replies q) p = p.0
  out_stays (parallel_left s) p = (out_stays s p.0, p.1)
  out_stays (parallel_right z s) p = (p.0, out_stays s p.1)
  out_stays (sequential_keeps c s) p = elim c [ ]
  out_stays (pruning_left s) p = (out_stays s p.0, p.1)
  out_stays (pruning_keeps z c s) p = elim c [ ]

  pruning_first_left : (t u n : ℕ) (f f' g : Expression) (a : Act) {x : ℕ} {ms : List Event} → Pass W t u f → Pass W t u g → Moves W f (did u a) f' → PruningParts W x n u f' g ms → PruningParts W x n t f g (did u a ∷ ms)
  pruning_first_left t u n f f' g a p q m (pruned {vs = vs} {vs' = vs'} {k = k} merged o e l r) = pruned (merged_first merged) o e (f', record { passes = p; moves = m }, l) (execution_earlier W t u k g (vs ++ vs') q r)

  pruning_first_right : (t u n : ℕ) (f g g' : Expression) (a : Act) {x : ℕ} {ms : List Event} → Keeps a → Pass W t u f → Pass W t u g → Moves W g (did u a) g' → PruningParts W x n u f g' ms → PruningParts W x n t f g (did u a ∷ ms)
  pruning_first_right t u n f g g' a c p q m (pruned {us = us} {us' = us'} merged o e l r) = pruned (merged_second merged) (silent_act c o) e (execution_earlier W t u n f (us ++ us') p l) (g', record { passes = q; moves = m }, r)

  pruning_first_own : (t u n y v : ℕ) (f g : Expression) {x : ℕ} {ms : List Event} → eqb x y ≡ true → Pass W t u f → Pass W t u g → PruningParts W x n u f (substitute v y g) ms → PruningParts W x n t f g (arrived u y v ∷ ms)
  pruning_first_own t u n y v f g z p q (pruned {us = us} {us' = us'} {vs = vs} {vs' = vs'} {k = k} merged o e l r) = pruned (merged_own z merged) (silent_arrival o) e (execution_earlier W t u n f (us ++ us') p l) (arrives W t u k y v g (substitute v y g) (vs ++ vs') refl q r)

  pruning_first_shared : (t u n y v : ℕ) (f g : Expression) {x : ℕ} {ms : List Event} → eqb x y ≡ false → Pass W t u f → Pass W t u g → PruningParts W x n u (substitute v y f) (substitute v y g) ms → PruningParts W x n t f g (arrived u y v ∷ ms)
  pruning_first_shared t u n y v f g z p q (pruned {us = us} {us' = us'} {vs = vs} {vs' = vs'} {k = k} merged o e l r) = pruned (merged_shared z merged) (silent_arrival o) e (arrives W t u n y v f (substitute v y f) (us ++ us') refl p l) (arrives W t u k y v g (substitute v y g) (vs ++ vs') refl q r)

  pruning_first : {x : ℕ} {f g : Expression} {m : Event} {e' : Expression} → Moves W (pruning x f g) m e' → (t n : ℕ) (ms : List Event) → Pass W t (tick m) f → Pass W t (tick m) g → Execution W (tick m) e' ms n → ((f g : Expression) → Execution W (tick m) (pruning x f g) ms n → PruningParts W x n (tick m) f g ms) → PruningParts W x n t f g (m ∷ ms)
  pruning_first {f = f} {g = g} (acts {t = u} {a = a} (pruning_left {f' = f'} s)) t n ms p q r more = pruning_first_left t u n f f' g a p q (acts s) (more f' g r)
  pruning_first {f = f} {g = g} (acts {t = u} {a = a} (pruning_keeps {g' = g'} z c s)) t n ms p q r more = pruning_first_right t u n f g g' a c p q (acts s) (more f g' r)
  pruning_first {x} {f} {g} (acts {t = u} (pruning_binds {w = w} {g' = g'} z s)) t n ms p q r more = pruned merged_end silent_end is_bound (arrives W t u n x w f (substitute w x f) ms refl p r) (g', record { passes = q; moves = acts s }, out_stays s (pass_cut W t u u g (pass_ordered W t u g q) (le_refl u) q).1)
  pruning_first {x} {f} {g} (takes_in {t = u} {x = y} {v = v}) t n ms p q r more = by_variable (eqb x y) refl
    where
      by_variable : (b : Bool) → eqb x y ≡ b → PruningParts W x n t f g (arrived u y v ∷ ms)
      by_variable true z = pruning_first_own t u n y v f g z p q (more f (substitute v y g) (rw (pruning_own x y v f g z) at r))
      by_variable false z = pruning_first_shared t u n y v f g z p q (more (substitute v y f) (substitute v y g) (rw (pruning_shared x y v f g z) at r))

  pruning_splits : (t n x : ℕ) (f g : Expression) (ms : List Event) → Execution W t (pruning x f g) ms n → PruningParts W x n t f g ms
  pruning_splits t n x f g [] r = pruned merged_end silent_end stays_open r.0 r.1
  pruning_splits t n x f g (m ∷ ms) r = pruning_first r.1.moves t n ms r.1.passes.0 r.1.passes.1 r.2 (λ f g. pruning_splits (tick m) n x f g ms)

-- A trace at every depth from some depth on, and so for what a sequential spawns.
abbrev Deep : World → ℕ → Expression → List Event → ℕ → Type 0
Deep W t e ms n = (d : ℕ) × ((j : ℕ) → d ≤ j → Trace W (suc j) t e ms n)

abbrev DeepSpawned : World → ℕ → Expression → List Event → ℕ → List Event → Type 0
DeepSpawned W x g us n ms = (d : ℕ) × ((j : ℕ) → d ≤ j → Spawned W (suc j) x g us n ms)

-- the execution of the left part of a sequential, and the traces of the copies of the right part
record SequentialParts (W : World) (x n t : ℕ) (f g : Expression) (ms : List Event) : Type 0 where
  lefts : List Event
  shorter : length lefts ≤ length ms
  left : Execution W t f lefts n
  spawned : DeepSpawned W x g lefts n ms

-- executions of fewer than k events are traces
abbrev DeepBelow : World → ℕ → Type 0
DeepBelow W k = (t n : ℕ) (e : Expression) (ms : List Event) → length ms < k → NothingPending e → Execution W t e ms n → Deep W t e ms n

module _ (W : World) (within : NothingPendingWithin W) (k : ℕ) (below : DeepBelow W k) where
  sequential_first : {x : ℕ} {f g : Expression} {m : Event} {e' : Expression} → Moves W (sequential x f g) m e' → (t n : ℕ) (ms : List Event) → length ms < k → NothingPending g → Pass W t (tick m) f → Execution W (tick m) e' ms n → ((f g : Expression) (vs : List Event) → length vs ≤ length ms → NothingPending g → Execution W (tick m) (sequential x f g) vs n → SequentialParts W x n (tick m) f g vs) → SequentialParts W x n t f g (m ∷ ms)
  unfolding substitute
  sequential_first {g = g} (acts {t = u} {a = a} (sequential_keeps {f' = f'} c s)) t n ms b z p r more =
      let parts = more f' g ms (le_refl _) z r in
      record { lefts = did u a ∷ parts.lefts; shorter = omega arith; left = (f', record { passes = p; moves = acts s }, parts.left); spawned = (parts.spawned.0, λ j h. spawned_act c (parts.spawned.1 j h)) }
  sequential_first {x} {f} {g} (acts {t = u} (sequential_spawns {w = w} {f' = f'} s)) t n ms b z p r more =
      let split = parallel_splits W u n (sequential x f' g) (substitute w x g) ms r in
      let no_longer = merged_shorter split.merged in
      let parts = more f' g split.lefts no_longer.0 z split.left in
      let copy = below u n (substitute w x g) split.rights (omega arith) (pending_calls_substitute w x g ∙ z) split.right in
      record { lefts = did u (out w) ∷ parts.lefts; shorter = omega arith; left = (f', record { passes = p; moves = acts s }, parts.left); spawned = (max parts.spawned.0 copy.0, λ j h. spawned_out (parts.spawned.1 j (omega arith)) (copy.1 j (omega arith)) split.merged) }
  sequential_first {x} {f} {g} (takes_in {t = u} {x = y} {v = v}) t n ms b z p r more =
      let parts = more (substitute v y f) (substitute_below v y x g) ms (le_refl _) (pending_calls_substitute_below v y x g ∙ z) r in
      record { lefts = arrived u y v ∷ parts.lefts; shorter = omega arith; left = arrives W t u n y v f (substitute v y f) parts.lefts refl p parts.left; spawned = (parts.spawned.0, λ j h. spawned_arrival (parts.spawned.1 j h)) }

  -- by recursion on a bound i of the number of events
  sequential_splits : (i t n x : ℕ) (f g : Expression) (ms : List Event) → length ms < i → length ms ≤ k → NothingPending g → Execution W t (sequential x f g) ms n → SequentialParts W x n t f g ms
  sequential_splits zero t n x f g ms a b z r = absurd (not-suc-le-zero a)
  sequential_splits (suc i) t n x f g [] a b z r = record { lefts = []; shorter = le_refl _; left = r; spawned = (0, λ j h. spawned_end) }
  sequential_splits (suc i) t n x f g (m ∷ ms) a b z r = sequential_first r.1.moves t n ms b z r.1.passes r.2 (λ f g vs c. sequential_splits i (tick m) n x f g vs (omega arith) (omega arith))

  -- a definition call with a value: one depth more than its body
  definition_waits : (i v : ℕ) {t n : ℕ} {ms : List Event} → Waited W t n (definition_call i (value v)) ms → length ms ≤ k → Deep W t (definition_call i (value v)) ms n
  definition_waits i v (waited idle p) b = (0, λ j h. of_definition_unmade idle p)
  definition_waits i v {t} {n} (acted {before = before} {u = u} ms idle p (acts (unfolds f q)) r) b = (suc body.0, deeper)
    where
      short : length ms < k
      short = omega (arith, length-append before (did u inner ∷ ms))

      body : Deep W u (substitute v f.formal f.body) ms n
      body = below u n _ ms short (unfolded_nothing_pending W i v f within q) r

      deeper : (j : ℕ) → suc body.0 ≤ j → Trace W (suc j) t (definition_call i (value v)) (before ++ (did u inner ∷ ms)) n
      deeper zero h = absurd (not-suc-le-zero h)
      deeper (suc j) h = subst (λ (t : ℕ). Trace W (suc (suc j)) t (definition_call i (value v)) (before ++ (did u inner ∷ ms)) n) p (of_definition f q idle (body.1 j (le_of_suc-le-suc h)))

  site_blocks : (s x n : ℕ) {t : ℕ} {ms : List Event} → Blocked W n x (site_call s) ms → Deep W t (site_call s (variable x)) ms n
  unfolding substitute
  site_blocks s x n (blocked i) = (0, λ j h. of_site_blocked i)
  site_blocks s x n (freed u v ms i r) = (0, λ j h. of_site_freed i (site_waits W j s v (waits W u n (site_call s (value v)) ms (λ v x. refl) r)))

  definition_blocks : (i x n : ℕ) {t : ℕ} {ms : List Event} → Blocked W n x (definition_call i) ms → length ms ≤ k → Deep W t (definition_call i (variable x)) ms n
  unfolding substitute
  definition_blocks i x n (blocked idle) b = (0, λ j h. of_definition_blocked idle)
  definition_blocks i x n (freed {before = before} u v ms idle r) b =
      let deep = definition_waits i v (waits W u n (definition_call i (value v)) ms (λ v x. refl) r) (omega (arith, length-append before (arrived u x v ∷ ms))) in
      (deep.0, λ j h. of_definition_freed idle (deep.1 j h))

  pruning_deep : {x n t : ℕ} {f g : Expression} {ms : List Event} → PruningParts W x n t f g ms → length ms ≤ k → ((us : List Event) → length us ≤ k → Execution W t f us n → Deep W t f us n) → ((vs : List Event) (n : ℕ) → length vs ≤ k → Execution W t g vs n → Deep W t g vs n) → Deep W t (pruning x f g) ms n
  pruning_deep (pruned {us = us} {us' = us'} {vs = vs} {vs' = vs'} {ms = ms} {ms' = ms'} {k = i} merged o e l r) b of-f of-g =
      let whole = length-append ms ms' in
      let no_longer = merged_shorter merged in
      let ends-no-longer = ends_shorter e in
      let c = of-f (us ++ us') (omega (arith, length-append us us')) l in
      let d = of-g (vs ++ vs') i (omega (arith, length-append vs vs')) r in
      (max c.0 d.0, λ j h. prunes e merged o (c.1 j (omega arith)) (d.1 j (omega arith)))

  -- by recursion on the expression: parts have no more events, and what is begun has fewer
  deep : (e : Expression) (t n : ℕ) (ms : List Event) → length ms ≤ k → NothingPending e → Execution W t e ms n → Deep W t e ms n
  unfolding substitute pending_calls
  deep stop t n ms b z r = (0, λ j h. of_stop (stop_idles W (waits W t n stop ms (λ v x. refl) r)))
  deep (site_call s (value v)) t n ms b z r = (0, λ j h. site_waits W j s v (waits W t n (site_call s (value v)) ms (λ v x. refl) r))
  deep (site_call s (variable x)) t n ms b z r = site_blocks s x n (blocks W x (site_call s) (λ v y. refl) (λ u a e'. no_act) t n ms r)
    where
      no_act : {u : ℕ} {a : Act} {e' : Expression} → Moves W (site_call s (variable x)) (did u a) e' → ⊥
      no_act (acts s) = elim s [ ]
  deep (definition_call i (value v)) t n ms b z r = definition_waits i v (waits W t n (definition_call i (value v)) ms (λ v x. refl) r) b
  deep (definition_call i (variable x)) t n ms b z r = definition_blocks i x n (blocks W x (definition_call i) (λ v y. refl) (λ u a e'. no_act) t n ms r) b
    where
      no_act : {u : ℕ} {a : Act} {e' : Expression} → Moves W (definition_call i (variable x)) (did u a) e' → ⊥
      no_act (acts s) = elim s [ ]
  deep (parallel f g) t n ms b z r =
      let parts = parallel_splits W t n f g ms r in
      let no_longer = merged_shorter parts.merged in
      let none = parts_nothing_pending f g z in
      let c = deep f t n parts.lefts (omega arith) none.0 parts.left in
      let d = deep g t n parts.rights (omega arith) none.1 parts.right in
      (max c.0 d.0, λ j h. of_parallel (c.1 j (omega arith)) (d.1 j (omega arith)) parts.merged)
  deep (sequential x f g) t n ms b z r =
      let none = parts_nothing_pending f g z in
      let parts = sequential_splits (suc (length ms)) t n x f g ms (le_refl _) b none.1 r in
      let c = deep f t n parts.lefts (le_trans parts.shorter b) none.0 parts.left in
      (max c.0 parts.spawned.0, λ j h. of_sequential (c.1 j (omega arith)) (parts.spawned.1 j (omega arith)))
  deep (pruning x f g) t n ms b z r =
      let none = parts_nothing_pending f g z in
      pruning_deep (pruning_splits W t n x f g ms r) b (λ us c. deep f t n us c none.0) (λ vs n c. deep g t n vs c none.1)
  deep (pending i s v c) t n ms b z r = absurd (cons≢nil z)

deep_below : (W : World) → NothingPendingWithin W → (k : ℕ) → DeepBelow W k
deep_below W within zero t n e ms b = absurd (not-suc-le-zero b)
deep_below W within (suc k) t n e ms b = deep W within k (deep_below W within k) e t n ms (le_of_suc-le-suc b)

pub executions_are_traces : ExecutionsAreTraces
executions_are_traces W t n e ms within z r = let c = deep_below W within (suc (length ms)) t n e ms (le_refl _) z r in (suc c.0, execution_timely W t n e ms r, c.1 c.0 (le_refl c.0))
