-- A trace stays one if all its ticks move by the same number, on or back. Assumes nothing.
use Rattle.std.proofs.Common.{◌≡◌, ℕ, ◌+◌, ◌-◌, ◌≤◌, Bool, List, [], ◌∷◌, map, refl, ap, ap₂, zero-le, le_trans, le_refl, add-zero, arith}
use mathlib.Core.List.{map-append}
use native.Mathlib.Nat.{sub_self}
use Rattle.orc.specs.Meaning.{Handle}
use Rattle.orc.specs.Expressions.{Expression, World}
use Rattle.orc.specs.Steps.{called, inner, out}
use Rattle.orc.specs.Executions.{Event, did, arrived}
use Rattle.orc.specs.Traces.{Timely, Idle, idle_end, idle_more, IdleBut, idle_but_end, idle_but_more, Silent, silent_end, silent_act, silent_arrival, Merged, merged_end, merged_first, merged_second, merged_shared, merged_own, HandleTrace, unanswered, answered, Trace, shallow, of_stop, of_site_unmade, of_site, of_definition_unmade, of_definition, of_site_blocked, of_site_freed, of_definition_blocked, of_definition_freed, of_parallel, of_sequential, of_pruning_open, of_pruning_bound, Spawned, spawned_end, spawned_act, spawned_arrival, spawned_out}
use Rattle.orc.specs.Agreement.{retimed, raised, BegunLaterIsRaised, BegunLaterIsOnlyRaised}
use Rattle.orc.proofs.Ages.{stands_no_older, replies_as_old}
use Rattle.orc.proofs.Times.{timely_ordered, timely_behind}
use Rattle.orc.proofs.Merging.{merged_timely, bound_parts_timely, spawned_timely}

module _ (φ : ℕ → ℕ) where
  abbrev moved : List Event → List Event
  moved ms = map (retimed φ) ms

  idle_moved : {ms : List Event} → Idle ms → Idle (moved ms)
  idle_moved idle_end = idle_end
  idle_moved (idle_more i) = idle_more (idle_moved i)

  idle_but_moved : {x : ℕ} {ms : List Event} → IdleBut x ms → IdleBut x (moved ms)
  idle_but_moved idle_but_end = idle_but_end
  idle_but_moved (idle_but_more q i) = idle_but_more q (idle_but_moved i)

  silent_moved : {ms : List Event} → Silent ms → Silent (moved ms)
  silent_moved silent_end = silent_end
  silent_moved (silent_act c o) = silent_act c (silent_moved o)
  silent_moved (silent_arrival o) = silent_arrival (silent_moved o)

  merged_moved : {own : ℕ → Bool} {us vs ms : List Event} → Merged own us vs ms → Merged own (moved us) (moved vs) (moved ms)
  merged_moved merged_end = merged_end
  merged_moved (merged_first m) = merged_first (merged_moved m)
  merged_moved (merged_second m) = merged_second (merged_moved m)
  merged_moved (merged_shared q m) = merged_shared q (merged_moved m)
  merged_moved (merged_own q m) = merged_own q (merged_moved m)

  -- φ moves all ticks from z on by the same number
  module _ (z : ℕ) (evenly : (m n : ℕ) → z ≤ m → z ≤ n → φ m + n ≡ φ n + m) where
    handle_moved : {h : Handle} {c : ℕ} {ms : List Event} {n : ℕ} → HandleTrace h c ms n → z ≤ c → Timely c ms n → HandleTrace h (φ c) (moved ms) (φ n)
    handle_moved {h} {c} {ms} {n} (unanswered i q) a b = unanswered (idle_moved i) (stands_no_older c n (φ c) (φ n) (omega (arith, timely_ordered c n ms b, evenly c n a)) h q)
    handle_moved {h} {c} {ms} {n} (answered {before = before} {behind = behind} u w i j q) a b =
        let behind-u = timely_behind c n before (did u (out w)) behind b in
        let even = evenly c u a (le_trans a behind-u.0) in
        rw map-append (answered (φ u) w (idle_moved i) (idle_moved j) (replies_as_old c u (φ c) (φ u) (omega arith) (omega arith) w h q))

    mutual
      trace_moved : {W : World} {d t : ℕ} {e : Expression} {ms : List Event} {n : ℕ} → Trace W d t e ms n → z ≤ t → Timely t ms n → Trace W d (φ t) e (moved ms) (φ n)
      trace_moved (shallow i q) a b = shallow (idle_moved i) (ap φ q)
      trace_moved (of_stop i) a b = of_stop (idle_moved i)
      trace_moved (of_site_unmade i q) a b = of_site_unmade (idle_moved i) (ap φ q)
      trace_moved {t = t} {n = n} (of_site {s = s} {v = v} {before = before} {ms = ms} i r) a b = rw map-append (of_site (idle_moved i) (handle_moved r a (timely_behind t n before (did t (called s v)) ms b).1))
      trace_moved (of_definition_unmade i q) a b = of_definition_unmade (idle_moved i) (ap φ q)
      trace_moved {t = t} {n = n} (of_definition {before = before} {ms = ms} f q i r) a b = rw map-append (of_definition f q (idle_moved i) (trace_moved r a (timely_behind t n before (did t inner) ms b).1))
      trace_moved (of_site_blocked i) a b = of_site_blocked (idle_but_moved i)
      trace_moved {t = t} {n = n} (of_site_freed {x = x} {τ = u} {v = v} {before = before} {ms = ms} i r) a b =
          let behind-u = timely_behind t n before (arrived u x v) ms b in
          rw map-append (of_site_freed (idle_but_moved i) (trace_moved r (le_trans a behind-u.0) behind-u.1))
      trace_moved (of_definition_blocked i) a b = of_definition_blocked (idle_but_moved i)
      trace_moved {t = t} {n = n} (of_definition_freed {x = x} {τ = u} {v = v} {before = before} {ms = ms} i r) a b =
          let behind-u = timely_behind t n before (arrived u x v) ms b in
          rw map-append (of_definition_freed (idle_but_moved i) (trace_moved r (le_trans a behind-u.0) behind-u.1))
      trace_moved {t = t} {n = n} (of_parallel p q m) a b = let c = merged_timely m t n b in of_parallel (trace_moved p a c.0) (trace_moved q a c.1) (merged_moved m)
      trace_moved {t = t} (of_sequential p s) a b = of_sequential (trace_moved p a (spawned_timely s t b)) (spawned_moved s t a b)
      trace_moved {t = t} {n = n} (of_pruning_open p q o m) a b = let c = merged_timely m t n b in of_pruning_open (trace_moved p a c.0) (trace_moved q a c.1) (silent_moved o) (merged_moved m)
      trace_moved {t = t} {n = n} (of_pruning_bound {x = x} u w rest p q o m) a b =
          let c = bound_parts_timely x n u w rest m t b in
          rw map-append (of_pruning_bound (φ u) w (moved rest) (rw map-append at (trace_moved p a c.0)) (rw map-append at (trace_moved q a c.1)) (silent_moved o) (merged_moved m))

      spawned_moved : {W : World} {d x : ℕ} {g : Expression} {us : List Event} {n : ℕ} {ms : List Event} → Spawned W d x g us n ms → (t : ℕ) → z ≤ t → Timely t ms n → Spawned W d x g (moved us) (φ n) (moved ms)
      spawned_moved spawned_end t a b = spawned_end
      spawned_moved (spawned_act {t = u} c s) t a b = spawned_act c (spawned_moved s u (le_trans a b.0) b.1)
      spawned_moved (spawned_arrival {t = u} s) t a b = spawned_arrival (spawned_moved s u (le_trans a b.0) b.1)
      spawned_moved {n = n} (spawned_out {t = u} s r m) t a b =
          let c = merged_timely m u n b.1 in
          spawned_out (spawned_moved s u (le_trans a b.0) c.0) (trace_moved r (le_trans a b.0) c.1) (merged_moved m)

    timely_moved : (t n : ℕ) (ms : List Event) → z ≤ t → Timely t ms n → Timely (φ t) (moved ms) (φ n)
    timely_moved t n [] a b = omega (arith, evenly t n a (le_trans a b))
    timely_moved t n (did u c ∷ ms) a b = (omega (arith, evenly t u a (le_trans a b.0)), timely_moved u n ms (le_trans a b.0) b.1)
    timely_moved t n (arrived u x v ∷ ms) a b = (omega (arith, evenly t u a (le_trans a b.0)), timely_moved u n ms (le_trans a b.0) b.1)

pub begun_later_is_raised : BegunLaterIsRaised
begun_later_is_raised W d t n e ms b r = (rw add-zero at (timely_moved (λ u. t + u) 0 even 0 n ms zero-le b), rw add-zero at (trace_moved (λ u. t + u) 0 even r zero-le b))
  where
    even : (m n : ℕ) → 0 ≤ m → 0 ≤ n → t + m + n ≡ t + n + m
    even m n _ _ = omega arith

-- events from t on, moved back by t and raised again
raised_back : (t u n : ℕ) (ms : List Event) → t ≤ u → Timely u ms n → ms ≡ raised t (moved (λ u. u - t) ms)
raised_back t u n [] a b = refl
raised_back t u n (did k c ∷ ms) a b = ap₂ ◌∷◌ (ap (λ (k : ℕ). did k c) (omega arith)) (raised_back t k n ms (le_trans a b.0) b.1)
raised_back t u n (arrived k x v ∷ ms) a b = ap₂ ◌∷◌ (ap (λ (k : ℕ). arrived k x v) (omega arith)) (raised_back t k n ms (le_trans a b.0) b.1)

pub begun_later_is_only_raised : BegunLaterIsOnlyRaised
begun_later_is_only_raised W d t n e ms b r =
    let a : t ≤ n = timely_ordered t n ms b in
    (moved back ms, n - t, raised_back t t n ms (le_refl t) b, omega arith, rw sub_self at (timely_moved back t even t n ms (le_refl t) b), rw sub_self at (trace_moved back t even r (le_refl t) b))
  where
    back : ℕ → ℕ
    back u = u - t

    even : (m n : ℕ) → t ≤ m → t ≤ n → back m + n ≡ back n + m
    even m n a b = omega arith
