-- Executions of the parts make an execution of the whole, rule by rule; so every timed trace is an execution. Assumes
-- nothing.
--
-- An execution begins at tick t and ends at n, and u is the tick of its first event.
use Rattle.std.proofs.Common.{◌≡◌, ℕ, ◌≤◌, eqb, List, [], ◌∷◌, ◌++◌, refl, ◌∙◌, append-nil}
use Rattle.std.proofs.lemmas.Bool.{false≢true, eq-eqb}
use Rattle.orc.specs.Meaning.{handle}
use Rattle.orc.specs.Expressions.{Parameter, value, variable, Expression, stop, site_call, definition_call, parallel, sequential, pruning, pending, World}
use Rattle.orc.specs.Variables.{replaced, substitute, substitute_below}
use Rattle.orc.specs.Calls.{pending_calls, NothingPending}
use Rattle.orc.specs.Steps.{Act, called, inner, out, Keeps, calls, unfolds, replies, parallel_left, parallel_right, sequential_keeps, sequential_spawns, pruning_left, pruning_keeps, pruning_binds, Pass}
use Rattle.orc.specs.Executions.{Event, did, arrived, Moves, acts, Execution}
use Rattle.orc.specs.Traces.{Timely, IdleBut, Silent, silent_end, silent_act, silent_arrival, Merged, merged_end, merged_first, merged_second, merged_shared, merged_own, nobody, HandleTrace, unanswered, answered, Trace, shallow, of_stop, of_site_unmade, of_site, of_definition_unmade, of_definition, of_site_blocked, of_site_freed, of_definition_blocked, of_definition_freed, of_parallel, of_sequential, of_pruning_open, of_pruning_bound, Spawned, spawned_end, spawned_act, spawned_arrival, spawned_out}
use Rattle.orc.specs.Agreement.{NothingPendingWithin, TracesAreExecutions}
use Rattle.orc.proofs.Ages.{replies_stands}
use Rattle.orc.proofs.Times.{execution_later, timely_ordered, timely_behind}
use Rattle.orc.proofs.Unbegun.{parts_nothing_pending, pending_calls_substitute, pending_calls_substitute_below, unfolded_nothing_pending}
use Rattle.orc.proofs.Arrivals.{call_kept, call_freed, pruning_own, pruning_shared, arrives, has_arrived, idles, idles_but, idles_at_once, only_idles, only_idles_but}
use Rattle.orc.proofs.Merging.{merged_timely_up_to, merged_timely, bound_timely, bound_parts_timely, spawned_timely}

module _ (W : World) where
  -- a parallel: when one part acts, time passes for the other up to that tick
  parallel_moves_left : {u : ℕ} {a : Act} {f f' g : Expression} → Moves W f (did u a) f' → Moves W (parallel f g) (did u a) (parallel f' g)
  parallel_moves_left (acts s) = acts (parallel_left s)

  parallel_moves_right : {u : ℕ} {a : Act} {f g g' : Expression} → Moves W g (did u a) g' → Moves W (parallel f g) (did u a) (parallel f g')
  parallel_moves_right (acts s) = acts (parallel_right refl s)

  parallel_executes : {us vs ms : List Event} → Merged nobody us vs ms → (t n : ℕ) (f g : Expression) → Timely t ms n → Execution W t f us n → Execution W t g vs n → Execution W t (parallel f g) ms n
  unfolding substitute
  parallel_executes merged_end t n f g h p q = (p, q)
  parallel_executes (merged_first {t = u} {vs = vs} m) t n f g h p q =
      let c = execution_later W t u n g vs h.0 (merged_timely m u n h.1).1 q in
      (parallel p.0 g, record { passes = (p.1.passes, c.0); moves = parallel_moves_left p.1.moves }, parallel_executes m u n p.0 g h.1 p.2 c.1)
  parallel_executes (merged_second {t = u} {us = us} m) t n f g h p q =
      let c = execution_later W t u n f us h.0 (merged_timely m u n h.1).0 p in
      (parallel f q.0, record { passes = (c.0, q.1.passes); moves = parallel_moves_right q.1.moves }, parallel_executes m u n f q.0 h.1 c.1 q.2)
  parallel_executes (merged_shared {t = u} {x = x} {v = v} {us = us} {vs = vs} {ms = ms} a m) t n f g h p q =
      let c = has_arrived W t u n x v f (substitute v x f) us refl p in
      let d = has_arrived W t u n x v g (substitute v x g) vs refl q in
      arrives W t u n x v (parallel f g) (parallel (substitute v x f) (substitute v x g)) ms refl (c.0, d.0) (parallel_executes m u n (substitute v x f) (substitute v x g) h.1 c.1 d.1)
  parallel_executes (merged_own a m) t n f g h p q = absurd (false≢true a)

  -- a pruning, likewise, while its right part publishes nothing
  pruning_moves_left : {x u : ℕ} {a : Act} {f f' g : Expression} → Moves W f (did u a) f' → Moves W (pruning x f g) (did u a) (pruning x f' g)
  pruning_moves_left (acts s) = acts (pruning_left s)

  pruning_moves_right : {x u : ℕ} {a : Act} {f g g' : Expression} → Keeps a → Moves W g (did u a) g' → Moves W (pruning x f g) (did u a) (pruning x f g')
  pruning_moves_right c (acts s) = acts (pruning_keeps refl c s)

  -- it executes, if it does so from where us' vs' ms' follow: its end, or the publication by its right part
  module _ (x n k : ℕ) (us' vs' ms' : List Event) (endings : (t : ℕ) → Timely t ms' n → Timely t us' n × Timely t vs' k) (ends : (t : ℕ) (f g : Expression) → Execution W t f us' n → Execution W t g vs' k → Execution W t (pruning x f g) ms' n) where
    pruning_executes_up_to : {us vs ms : List Event} → Merged (eqb x) us vs ms → Silent vs → (t : ℕ) (f g : Expression) → Timely t (ms ++ ms') n → Execution W t f (us ++ us') n → Execution W t g (vs ++ vs') k → Execution W t (pruning x f g) (ms ++ ms') n
    pruning_executes_up_to merged_end silent_end t f g h p q = ends t f g p q
    pruning_executes_up_to (merged_first {t = u} {vs = vs} m) o t f g h p q =
        let c = execution_later W t u k g (vs ++ vs') h.0 (merged_timely_up_to (eqb x) n k us' vs' ms' endings m u h.1).1 q in
        (pruning x p.0 g, record { passes = (p.1.passes, c.0); moves = pruning_moves_left p.1.moves }, pruning_executes_up_to m o u p.0 g h.1 p.2 c.1)
    pruning_executes_up_to (merged_second {t = u} {us = us} m) (silent_act b o) t f g h p q =
        let c = execution_later W t u n f (us ++ us') h.0 (merged_timely_up_to (eqb x) n k us' vs' ms' endings m u h.1).0 p in
        (pruning x f q.0, record { passes = (c.0, q.1.passes); moves = pruning_moves_right b q.1.moves }, pruning_executes_up_to m o u f q.0 h.1 c.1 q.2)
    pruning_executes_up_to (merged_shared {t = u} {x = y} {v = v} {us = us} {vs = vs} {ms = ms} a m) (silent_arrival o) t f g h p q =
        let c = has_arrived W t u n y v f (substitute v y f) (us ++ us') refl p in
        let d = has_arrived W t u k y v g (substitute v y g) (vs ++ vs') refl q in
        arrives W t u n y v (pruning x f g) (pruning x (substitute v y f) (substitute v y g)) (ms ++ ms') (pruning_shared x y v f g a) (c.0, d.0) (pruning_executes_up_to m o u (substitute v y f) (substitute v y g) h.1 c.1 d.1)
    pruning_executes_up_to (merged_own {t = u} {x = y} {v = v} {us = us} {vs = vs} {ms = ms} a m) (silent_arrival o) t f g h p q =
        let c = execution_later W t u n f (us ++ us') h.0 (merged_timely_up_to (eqb x) n k us' vs' ms' endings m u h.1).0 p in
        let d = has_arrived W t u k y v g (substitute v y g) (vs ++ vs') refl q in
        arrives W t u n y v (pruning x f g) (pruning x f (substitute v y g)) (ms ++ ms') (pruning_own x y v f g a) (c.0, d.0) (pruning_executes_up_to m o u f (substitute v y g) h.1 c.1 d.1)

  -- the right part never publishes
  pruning_executes_open : (x : ℕ) {us vs ms : List Event} → Merged (eqb x) us vs ms → Silent vs → (t n : ℕ) (f g : Expression) → Timely t ms n → Execution W t f us n → Execution W t g vs n → Execution W t (pruning x f g) ms n
  pruning_executes_open x m o t n f g h p q = rw append-nil at (pruning_executes_up_to x n n [] [] [] (λ t h. (h, h)) (λ t f g p q. (p, q)) m o t f g (rw append-nil h) (rw append-nil p) (rw append-nil q))

  binds : {x u w : ℕ} {f g g' : Expression} → Moves W g (did u (out w)) g' → Moves W (pruning x f g) (did u inner) (substitute w x f)
  binds (acts s) = acts (pruning_binds refl s)

  -- it publishes w at u
  module _ (x n u w : ℕ) (rest : List Event) where
    bound_executes : (t : ℕ) (f g : Expression) → Execution W t f (arrived u x w ∷ rest) n → Execution W t g (did u (out w) ∷ []) u → Execution W t (pruning x f g) (did u inner ∷ rest) n
    bound_executes t f g p q = let c = has_arrived W t u n x w f (substitute w x f) rest refl p in (substitute w x f, record { passes = (c.0, q.1.passes); moves = binds q.1.moves }, c.1)

  -- a sequential
  sequential_moves : {x u : ℕ} {a : Act} {f f' g : Expression} → Keeps a → Moves W f (did u a) f' → Moves W (sequential x f g) (did u a) (sequential x f' g)
  sequential_moves c (acts s) = acts (sequential_keeps c s)

  spawns : {x u w : ℕ} {f f' g : Expression} → Moves W f (did u (out w)) f' → Moves W (sequential x f g) (did u inner) (parallel (sequential x f' g) (substitute w x g))
  spawns (acts s) = acts (sequential_spawns s)

  -- a call that was made and waits, with any ticket
  handle_executes : (s v : ℕ) {c : ℕ} {ms : List Event} {n : ℕ} → HandleTrace (handle W.meaning s v) c ms n → (t k : ℕ) → Timely t ms n → Execution W t (pending k s v c) ms n
  unfolding substitute
  handle_executes s v {c} {n = n} (unanswered {ms = ms} i q) t k h = only_idles W i t n (pending k s v c) (λ w x. refl) h (timely_ordered t n ms h, q)
  handle_executes s v {c} {n = n} (answered {before = before} {behind = behind} u w i j q) t k h =
      let b = timely_behind t n before (did u (out w)) behind h in
      idles W i t n (pending k s v c) (did u (out w) ∷ behind) (λ w x. refl) h (stop, record { passes = (b.0, replies_stands (handle W.meaning s v) c u w q); moves = acts {k = 0} (replies q) }, only_idles W j u n stop (λ w x. refl) b.1 (timely_ordered u n behind b.1))

  -- what a call with a variable x comes to, where c makes the call with a parameter
  module _ (x : ℕ) (c : Parameter → Expression) (passes : (t n : ℕ) → t ≤ n → Pass W t n (c (variable x))) (substitutes : (v y : ℕ) → substitute v y (c (variable x)) ≡ c (replaced v y (variable x))) where
    blocked_executes : {ms : List Event} → IdleBut x ms → (t n : ℕ) → Timely t ms n → Execution W t (c (variable x)) ms n
    blocked_executes {ms} i t n h = only_idles_but W i t n (c (variable x)) (call_kept x c substitutes) h (passes t n (timely_ordered t n ms h))

    freed_executes : {before : List Event} → IdleBut x before → (t u n v : ℕ) (ms : List Event) → Timely t (before ++ (arrived u x v ∷ ms)) n → (Timely u ms n → Execution W u (c (value v)) ms n) → Execution W t (c (variable x)) (before ++ (arrived u x v ∷ ms)) n
    freed_executes {before} i t u n v ms h r =
        let b = timely_behind t n before (arrived u x v) ms h in
        idles_but W i t n (c (variable x)) (arrived u x v ∷ ms) (call_kept x c substitutes) h (arrives W t u n x v (c (variable x)) (c (value v)) ms (call_freed x c substitutes v x (eq-eqb x x refl)) (passes t u b.0) (r b.1))

-- By recursion on the trace, and on what a sequential spawns: there an execution of the left part makes one of the whole.
module _ (W : World) (within : NothingPendingWithin W) where
  mutual
    unfolding substitute pending_calls

    trace_executes : {d t : ℕ} {e : Expression} {ms : List Event} {n : ℕ} → Trace W d t e ms n → NothingPending e → Timely t ms n → Execution W t e ms n
    trace_executes {t = t} {e = e} {n = n} (shallow i q) b h = idles_at_once W i t n e b q h
    trace_executes {t = t} {ms = ms} {n = n} (of_stop i) b h = only_idles W i t n stop (λ v x. refl) h (timely_ordered t n ms h)
    trace_executes {t = t} {e = e} {n = n} (of_site_unmade i q) b h = idles_at_once W i t n e b q h
    trace_executes {t = t} {n = n} (of_site {s = s} {v = v} {before = before} {ms = ms} i r) b h =
        idles W i t n (site_call s (value v)) (did t (called s v) ∷ ms) (λ w x. refl) h (pending 0 s v t, record { passes = refl; moves = acts calls }, handle_executes W s v r t 0 (timely_behind t n before (did t (called s v)) ms h).1)
    trace_executes {t = t} {e = e} {n = n} (of_definition_unmade i q) b h = idles_at_once W i t n e b q h
    trace_executes {t = t} {n = n} (of_definition {i = j} {v = v} {before = before} {ms = ms} f q i r) b h =
        idles W i t n (definition_call j (value v)) (did t inner ∷ ms) (λ w x. refl) h (substitute v f.formal f.body, record { passes = refl; moves = acts {k = 0} (unfolds f q) }, trace_executes r (unfolded_nothing_pending W j v f within q) (timely_behind t n before (did t inner) ms h).1)
    trace_executes {t = t} {n = n} (of_site_blocked {s = s} {x = x} i) b h = blocked_executes W x (site_call s) (λ t n a. a) (λ v y. refl) i t n h
    trace_executes {t = t} {n = n} (of_site_freed {s = s} {x = x} {τ = u} {v = v} {ms = ms} i r) b h = freed_executes W x (site_call s) (λ t n a. a) (λ v y. refl) i t u n v ms h (trace_executes r refl)
    trace_executes {t = t} {n = n} (of_definition_blocked {i = j} {x = x} i) b h = blocked_executes W x (definition_call j) (λ t n a. a) (λ v y. refl) i t n h
    trace_executes {t = t} {n = n} (of_definition_freed {i = j} {x = x} {τ = u} {v = v} {ms = ms} i r) b h = freed_executes W x (definition_call j) (λ t n a. a) (λ v y. refl) i t u n v ms h (trace_executes r refl)
    trace_executes {t = t} {n = n} (of_parallel {f = f} {g = g} p q m) b h =
        let c = parts_nothing_pending f g b in
        let i = merged_timely m t n h in
        parallel_executes W m t n f g h (trace_executes p c.0 i.0) (trace_executes q c.1 i.1)
    trace_executes {t = t} {n = n} (of_sequential {f = f} {g = g} p s) b h =
        let c = parts_nothing_pending f g b in
        spawned_executes s c.1 t f h (trace_executes p c.0 (spawned_timely s t h))
    trace_executes {t = t} {n = n} (of_pruning_open {x = x} {f = f} {g = g} p q o m) b h =
        let c = parts_nothing_pending f g b in
        let i = merged_timely m t n h in
        pruning_executes_open W x m o t n f g h (trace_executes p c.0 i.0) (trace_executes q c.1 i.1)
    trace_executes {t = t} {n = n} (of_pruning_bound {x = x} {f = f} {g = g} u w rest p q o m) b h =
        let c = parts_nothing_pending f g b in
        let i = bound_parts_timely x n u w rest m t h in
        pruning_executes_up_to W x n u (arrived u x w ∷ rest) (did u (out w) ∷ []) (did u inner ∷ rest) (bound_timely x n u w rest) (bound_executes W x n u w rest) m o t f g h (trace_executes p c.0 i.0) (trace_executes q c.1 i.1)

    spawned_executes : {d x : ℕ} {g : Expression} {us : List Event} {n : ℕ} {ms : List Event} → Spawned W d x g us n ms → NothingPending g → (t : ℕ) (f : Expression) → Timely t ms n → Execution W t f us n → Execution W t (sequential x f g) ms n
    spawned_executes spawned_end b t f h p = p
    spawned_executes (spawned_act {t = u} k s) b t f h p = (sequential _ p.0 _, record { passes = p.1.passes; moves = sequential_moves W k p.1.moves }, spawned_executes s b u p.0 h.1 p.2)
    spawned_executes {x = x} {g = g} {n = n} (spawned_arrival {t = u} {y = y} {v = v} {us = us} {ms = ms} s) b t f h p =
        let c = has_arrived W t u n y v f (substitute v y f) us refl p in
        arrives W t u n y v (sequential x f g) (sequential x (substitute v y f) (substitute_below v y x g)) ms refl c.0 (spawned_executes s (pending_calls_substitute_below v y x g ∙ b) u (substitute v y f) h.1 c.1)
    spawned_executes {x = x} {g = g} {n = n} (spawned_out {t = u} {w = w} s r m) b t f h p =
        let i = merged_timely m u n h.1 in
        (parallel (sequential x p.0 g) (substitute w x g), record { passes = p.1.passes; moves = spawns W p.1.moves }, parallel_executes W m u n (sequential x p.0 g) (substitute w x g) h.1 (spawned_executes s b u p.0 i.0 p.2) (trace_executes r (pending_calls_substitute w x g ∙ b) i.1))

pub traces_are_executions : TracesAreExecutions
traces_are_executions W d t n e ms within z h r = trace_executes W within r z h
