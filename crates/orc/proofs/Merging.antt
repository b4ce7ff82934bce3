-- Where the events of a whole are in time, those of its parts are; and merged parts are no longer than the whole. Assumes
-- nothing.
use Rattle.std.proofs.Common.{ℕ, ◌≤◌, Bool, eqb, List, [], ◌∷◌, ◌++◌, length, append-nil, le_refl, arith}
use Rattle.orc.specs.Expressions.{Expression, World}
use Rattle.orc.specs.Steps.{inner, out}
use Rattle.orc.specs.Executions.{Event, did, arrived}
use Rattle.orc.specs.Traces.{Timely, Merged, merged_end, merged_first, merged_second, merged_shared, merged_own, Spawned, spawned_end, spawned_act, spawned_arrival, spawned_out}
use Rattle.orc.proofs.Times.{timely_earlier}

-- us vs ms are merged up to where us' vs' ms' follow; the second part ends at its own k
module _ (own : ℕ → Bool) (n k : ℕ) (us' vs' ms' : List Event) (endings : (t : ℕ) → Timely t ms' n → Timely t us' n × Timely t vs' k) where
  pub merged_timely_up_to : {us vs ms : List Event} → Merged own us vs ms → (t : ℕ) → Timely t (ms ++ ms') n → Timely t (us ++ us') n × Timely t (vs ++ vs') k
  merged_timely_up_to merged_end t h = endings t h
  merged_timely_up_to (merged_first {t = u} {vs = vs} m) t h = let r = merged_timely_up_to m u h.1 in ((h.0, r.0), timely_earlier t u k (vs ++ vs') h.0 r.1)
  merged_timely_up_to (merged_second {t = u} {us = us} m) t h = let r = merged_timely_up_to m u h.1 in (timely_earlier t u n (us ++ us') h.0 r.0, (h.0, r.1))
  merged_timely_up_to (merged_shared {t = u} a m) t h = let r = merged_timely_up_to m u h.1 in ((h.0, r.0), (h.0, r.1))
  merged_timely_up_to (merged_own {t = u} {us = us} a m) t h = let r = merged_timely_up_to m u h.1 in (timely_earlier t u n (us ++ us') h.0 r.0, (h.0, r.1))

pub merged_timely : {own : ℕ → Bool} {us vs ms : List Event} → Merged own us vs ms → (t n : ℕ) → Timely t ms n → Timely t us n × Timely t vs n
merged_timely {own} {us} {vs} {ms} m t n h = simp append-nil at (merged_timely_up_to own n n [] [] [] (λ t h. (h, h)) m t (simp append-nil h))

-- where a pruning's right part publishes w at u, its left part goes on with the rest
module _ (x n u w : ℕ) (rest : List Event) where
  pub bound_timely : (t : ℕ) → Timely t (did u inner ∷ rest) n → Timely t (arrived u x w ∷ rest) n × Timely t (did u (out w) ∷ []) u
  bound_timely t h = (h, (h.0, le_refl u))

  pub bound_parts_timely : {us vs ms : List Event} → Merged (eqb x) us vs ms → (t : ℕ) → Timely t (ms ++ (did u inner ∷ rest)) n → Timely t (us ++ (arrived u x w ∷ rest)) n × Timely t (vs ++ (did u (out w) ∷ [])) u
  bound_parts_timely = merged_timely_up_to (eqb x) n u (arrived u x w ∷ rest) (did u (out w) ∷ []) (did u inner ∷ rest) bound_timely

-- the events of a sequential's left part are in time if those of the whole are
pub spawned_timely : {W : World} {d x : ℕ} {g : Expression} {us : List Event} {n : ℕ} {ms : List Event} → Spawned W d x g us n ms → (t : ℕ) → Timely t ms n → Timely t us n
spawned_timely spawned_end t h = h
spawned_timely (spawned_act {t = u} k s) t h = (h.0, spawned_timely s u h.1)
spawned_timely (spawned_arrival {t = u} s) t h = (h.0, spawned_timely s u h.1)
spawned_timely {n = n} (spawned_out {t = u} s c m) t h = (h.0, spawned_timely s u (merged_timely m u n h.1).0)

pub merged_shorter : {own : ℕ → Bool} {us vs ms : List Event} → Merged own us vs ms → (length us ≤ length ms) × (length vs ≤ length ms)
merged_shorter merged_end = (le_refl 0, le_refl 0)
merged_shorter (merged_first m) = let r = merged_shorter m in (omega arith, omega arith)
merged_shorter (merged_second m) = let r = merged_shorter m in (omega arith, omega arith)
merged_shorter (merged_shared a m) = let r = merged_shorter m in (omega arith, omega arith)
merged_shorter (merged_own a m) = let r = merged_shorter m in (omega arith, omega arith)
