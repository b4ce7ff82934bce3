-- The worked examples. What can be shown is derived transition by transition; what cannot, by going through every transition
-- that there is. Assumes nothing.
use Rattle.std.proofs.Common.{◌≡◌, ℕ, zero, suc, ◌+◌, ◌*◌, true, false, ◌&&◌, eqb, List, [], ◌∷◌, Some, refl, zero-le, le_refl, zero-add, arith}
use Rattle.std.proofs.lemmas.Bool.{false≢true, eq-eqb}
use Rattle.std.specs.List.{AllByRecursion}
use Rattle.std.proofs.lemmas.Bool.Decides.{nat_tests}
use Rattle.orc.specs.Meaning.{handle, within_reach, can_stand, can_reply}
use Rattle.orc.specs.Local.{exactly}
use Rattle.orc.specs.Expressions.{bytes, value, variable, Expression, stop, site_call, definition_call, parallel, sequential, pruning, pending, Definition, World, entry}
use Rattle.orc.specs.Variables.{substitute, free}
use Rattle.orc.specs.Sound.{ClosedButFormal}
use Rattle.orc.specs.Simplified.{parallel_of, sequential_of, simplified}
use Rattle.orc.specs.Calls.{due_count, Pending, pending_calls, NothingPending}
use Rattle.orc.specs.Steps.{Act, called, inner, out, Keeps, keeps_call, keeps_inner, Leaf, Step, calls, unfolds, replies, parallel_left, parallel_right, sequential_keeps, sequential_spawns, pruning_left, pruning_keeps, pruning_binds, Pass}
use Rattle.orc.specs.Executions.{Event, did, Moves, acts, Execution}
use Rattle.orc.specs.Agreement.{NothingPendingWithin}
use Rattle.orc.specs.Examples.{plain, with_definitions, call_let, beat, rounds, Shows, NeverShows, ATimerEndsTheWait, TheFirstReplyWins, EachReplySpawnsACopy, TheNearestBinderCounts, ADefinitionMayCallItself, AValueMayNeverArrive, NoReplyAfterPruning, NoTimeOverADueCall, NoSecondReply}
use Rattle.orc.proofs.Ages.{replies_stands}
use Rattle.orc.proofs.Alike.{simplification_keeps_executions}
use Rattle.orc.proofs.Decomposing.{executions_are_traces}
use Rattle.orc.proofs.Composing.{traces_are_executions}

-- what lets time pass over the examples
ruleset passing = (zero-le, le_refl)

-- an execution, act by act: time passes up to the act's tick, and its transition follows, with the ticket k for a call
record Seen (W : World) (t : ℕ) (e : Expression) (ms : List Event) (n : ℕ) : Type 0 where
  run : Execution W t e ms n

act : {W : World} {t u n : ℕ} {e e' : Expression} {l : Leaf} {a : Act} {gone : List Pending} {ms : List Event} (k : ℕ) → Pass W t u e → Step W u k e l a gone e' → Seen W u e' ms n → Seen W t e (did u a ∷ ms) n
act k p s x = record { run = (_, record { passes = p; moves = acts s }, x.run) }

over : {W : World} {t n : ℕ} {e : Expression} → Pass W t n e → Seen W t e [] n
over p = record { run = p }

-- it is a timed trace as well
shown : {W : World} {e : Expression} {ms : List Event} {n : ℕ} → NothingPendingWithin W → NothingPending e → Seen W 0 e ms n → Shows W e ms n
shown {W} {e} {ms} {n} within nothing x = let h = executions_are_traces W 0 n e ms within nothing x.run in record { execution = x.run; timely = h.1; depth = h.0; trace = h.2 }

-- what moves under an act that publishes nothing, and under an inner step
abbrev UnlessOut : Act → Type 0 → Type 0
UnlessOut (called s v) X = X
UnlessOut inner X = X
UnlessOut (out w) X = Unit {0}

abbrev IfInner : Act → Type 0 → Type 0
IfInner (called s v) X = Unit {0}
IfInner inner X = X
IfInner (out w) X = Unit {0}

kept : {a : Act} (X : Type 0) → Keeps a → UnlessOut a X → X
kept X keeps_call h = h
kept X keeps_inner h = h

module _ (W : World) (t : ℕ) where
  -- C holds of all that e can become at tick t by a transition with this act
  abbrev Every : Expression → Act → (Expression → Type 0) → Type 0
  Every stop a C = Unit {0}
  Every (site_call s (value v)) (called s' v') C = (eqb s s' && eqb v v') ≡ true → (k : ℕ) → C (pending k s v t)
  Every (site_call s (value v)) inner C = Unit {0}
  Every (site_call s (value v)) (out w) C = Unit {0}
  Every (site_call s (variable x)) a C = Unit {0}
  Every (definition_call i (value v)) (called s w) C = Unit {0}
  Every (definition_call i (value v)) inner C = (d : Definition) → entry W.definitions i ≡ Some d → C (substitute v d.formal d.body)
  Every (definition_call i (value v)) (out w) C = Unit {0}
  Every (definition_call i (variable x)) a C = Unit {0}
  Every (parallel f g) a C = Every f a (λ f'. C (parallel f' g)) × Every g a (λ g'. C (parallel f g'))
  Every (sequential x f g) a C = UnlessOut a (Every f a (λ f'. C (sequential x f' g))) × IfInner a ((w : ℕ) → Every f (out w) (λ f'. C (parallel (sequential x f' g) (substitute w x g))))
  Every (pruning x f g) a C = Every f a (λ f'. C (pruning x f' g)) × UnlessOut a (Every g a (λ g'. C (pruning x f g'))) × IfInner a ((w : ℕ) → Every g (out w) (λ g'. C (substitute w x f)))
  Every (pending k s v c) (called s' v') C = Unit {0}
  Every (pending k s v c) inner C = Unit {0}
  Every (pending k s v c) (out w) C = can_reply (handle W.meaning s v) c t w ≡ true → C stop

  every_step : {k : ℕ} {e : Expression} {l : Leaf} {a : Act} {gone : List Pending} {e' : Expression} (C : Expression → Type 0) → Step W t k e l a gone e' → Every e a C → C e'
  every_step C (calls {s} {v}) h = h (rw (eq-eqb s s refl, eq-eqb v v refl)) _
  every_step C (unfolds d q) h = h d q
  every_step C (replies q) h = h q
  every_step C (parallel_left s) h = every_step _ s h.0
  every_step C (parallel_right b s) h = every_step _ s h.1
  every_step C (sequential_keeps q s) h = every_step _ s (kept _ q h.0)
  every_step C (sequential_spawns s) h = every_step _ s (h.1 _)
  every_step C (pruning_left s) h = every_step _ s h.0
  every_step C (pruning_keeps b q s) h = every_step _ s (kept _ q h.1)
  every_step C (pruning_binds b s) h = every_step _ s (h.2 _)

-- no execution of e, begun at t, has these events and this end
record Refused (W : World) (t : ℕ) (e : Expression) (ms : List Event) (n : ℕ) : Type 0 where
  none : Execution W t e ms n → ⊥

-- so it is if it is so after every transition
after_every : {W : World} {t u n : ℕ} {e : Expression} {a : Act} {ms : List Event} → Every W u e a (λ e'. Refused W u e' ms n) → Refused W t e (did u a ∷ ms) n
after_every {W} {t} {u} {n} {e} {a} {ms} h = record { none = λ x. by x.0 x.1.moves x.2 }
  where
    by : (e' : Expression) → Moves W e (did u a) e' → Execution W u e' ms n → ⊥
    by e' (acts s) = (every_step W u (λ e''. Refused W u e'' ms n) s h).none

never : {W : World} {e : Expression} {ms : List Event} {n : ℕ} → NothingPendingWithin W → NothingPending e → Refused W 0 e ms n → NeverShows W e ms n
never {W} {e} {ms} {n} within nothing x d h r = x.none (traces_are_executions W d 0 n e ms within nothing h r)

-- a test that fails
other : {X : Type 0} → false ≡ true → X
other q = absurd (false≢true q)

pub a_timer_ends_the_wait : ATimerEndsTheWait
unfolding substitute due_count pending_calls can_stand within_reach can_reply
a_timer_ends_the_wait =
    record {
      silent_sensor = λ n h. shown tt refl (
          act 1 (search passing) (pruning_keeps refl keeps_call (parallel_left calls)) (
          act 2 (search passing) (pruning_keeps refl keeps_call (parallel_right refl calls)) (
          act 3 (search passing) (pruning_binds refl (parallel_right refl (replies refl))) (
          act 3 (search passing) calls (
          act 4 (search passing) (replies refl) (
          over h))))));
      sensor_in_time = λ n h. shown tt refl (
          act 1 (search passing) (pruning_keeps refl keeps_call (parallel_left calls)) (
          act 2 (search passing) (pruning_keeps refl keeps_call (parallel_right refl calls)) (
          act 3 (search passing) (pruning_binds refl (parallel_left (replies refl))) (
          act 3 (search passing) calls (
          act 4 (search passing) (replies refl) (
          over h))))));
    }

pub the_first_reply_wins : TheFirstReplyWins
unfolding substitute due_count pending_calls can_stand within_reach can_reply
the_first_reply_wins =
    record {
      second_published = λ n. shown tt refl (
          act 1 (search passing) (pruning_keeps refl keeps_call (parallel_left calls)) (
          act 2 (search passing) (pruning_keeps refl keeps_call (parallel_right refl calls)) (
          act 3 (search passing) (pruning_binds refl (parallel_right refl (replies refl))) (
          act 3 (search passing) calls (
          act 4 (search passing) (replies refl) (
          over zero-le))))));
      loser_withdrawn = λ k. pruning_binds refl (parallel_right refl (replies refl));
    }

pub each_reply_spawns_a_copy : EachReplySpawnsACopy
unfolding substitute due_count pending_calls can_stand within_reach can_reply
each_reply_spawns_a_copy =
    record {
      two_published = λ n h. shown tt refl (
          act 1 (search passing) (sequential_keeps keeps_call (parallel_left calls)) (
          act 2 (search passing) (sequential_keeps keeps_call (parallel_right refl calls)) (
          act 3 (search passing) (sequential_spawns (parallel_left (replies refl))) (
          act 3 (search passing) (parallel_right refl calls) (
          act 4 (search passing) (parallel_right refl (replies refl)) (
          act 4 (search passing) (parallel_left (sequential_spawns (parallel_right refl (replies refl)))) (
          act 4 (search passing) (parallel_left (parallel_right refl calls)) (
          act 5 (search passing) (parallel_left (parallel_right refl (replies refl))) (
          over (search passing))))))))));
    }

pub the_nearest_binder_counts : TheNearestBinderCounts
unfolding substitute due_count pending_calls can_stand within_reach can_reply bytes
the_nearest_binder_counts =
    record {
      as_bytes = refl;
      outer_kept_out = refl;
      of_two_prunings = λ n h. shown tt refl (
          act 1 (search passing) (pruning_keeps refl keeps_call calls) (
          act 2 (search passing) (pruning_binds {w = 4} refl (replies refl)) (
          act 2 (search passing) (pruning_keeps refl keeps_call calls) (
          act 3 (search passing) (pruning_binds refl (replies refl)) (
          act 3 (search passing) calls (
          act 4 (search passing) (replies refl) (
          over h)))))));
      of_two_sequentials = λ n. shown tt refl (
          act 1 (search passing) (sequential_keeps keeps_call calls) (
          act 2 (search passing) (sequential_spawns {w = 1} (replies refl)) (
          act 2 (search passing) (parallel_right refl (sequential_keeps keeps_call calls)) (
          act 3 (search passing) (parallel_right refl (sequential_spawns (replies refl))) (
          act 3 (search passing) (parallel_right refl (parallel_right refl calls)) (
          act 4 (search passing) (parallel_right refl (parallel_right refl (replies refl))) (
          over (search passing))))))));
    }

-- an exact reply comes at its age, and the call can stand until then
exact : (c n u v : ℕ) → u ≡ c + n → can_reply (exactly n v) c u v ≡ true
unfolding can_reply
exact c n u v q = grind (arith, nat_tests)

stands : (c n u v : ℕ) → u ≡ c + n → can_stand (exactly n v) c u ≡ true
stands c n u v q = replies_stands (exactly n v) c u v (exact c n u v q)

closed : AllByRecursion ClosedButFormal (beat ∷ [])
unfolding free
closed = (λ x h. grind (arith, nat_tests), tt)

-- After a round the definition is called again, beside what is left of the round. Simplification takes that away.
abbrev beating : World
beating = with_definitions (beat ∷ [])

abbrev call_beat : Expression
call_beat = definition_call 0 (value 3)

again : (n t : ℕ) → Seen beating (t + 3) call_beat (rounds (t + 3) n) ((t + 3) + 3 * n) → Seen beating (t + 3) (parallel stop (parallel (sequential 1 stop call_beat) call_beat)) (rounds (t + 3) n) (t + 3 * suc n)
unfolding simplified parallel_of sequential_of
again n t x =
    let ends : t + 3 * suc n ≡ (t + 3) + 3 * n = omega arith in
    rw ends (record { run = (simplification_keeps_executions beating closed (t + 3) (parallel stop (parallel (sequential 1 stop call_beat) call_beat)) (rounds (t + 3) n) ((t + 3) + 3 * n)).1 x.run })

beats_from : (n t : ℕ) → Seen beating t call_beat (rounds t n) (t + 3 * n)
unfolding substitute due_count
beats_from zero t = over (omega arith)
beats_from (suc n) t =
    act 1 refl (unfolds beat refl) (
    act 1 (refl, refl) (parallel_left calls) (
    act 2 ((le_refl t, stands t 0 t 3 (omega arith)), refl) (parallel_left (replies (exact t 0 t 3 (omega arith)))) (
    act 2 (le_refl t, refl) (parallel_right refl (sequential_keeps keeps_call calls)) (
    act 3 (omega arith, (omega arith, stands t 3 (t + 3) 0 refl)) (parallel_right refl (sequential_spawns (replies (exact t 3 (t + 3) 0 refl)))) (
    again n t (beats_from n (t + 3)))))))

pub a_definition_may_call_itself : ADefinitionMayCallItself
unfolding pending_calls
a_definition_may_call_itself = record { beats = λ n. shown (refl, tt) refl (rw zero-add at (beats_from n 0)) }

pub a_value_may_never_arrive : AValueMayNeverArrive
unfolding due_count pending_calls can_stand can_reply
a_value_may_never_arrive =
    record {
      time_passes = λ n. shown tt refl (act 1 (search passing) (pruning_keeps refl keeps_call calls) (over (search passing)));
      never_made = λ t a rest n. never tt refl (after_every (tt, (λ q k. after_every (silent t a rest n k)), tt));
    }
  where
    silent : (t : ℕ) (a : Act) (rest : List Event) (n k : ℕ) → Every plain t (pruning 0 (call_let (variable 0)) (pending k 1 0 0)) a (λ e. Refused plain t e rest n)
    silent t (called s v) rest n k = (tt, tt, tt)
    silent t inner rest n k = (tt, tt, λ w. other)
    silent t (out w) rest n k = (tt, tt, tt)

pub no_reply_after_pruning : NoReplyAfterPruning
unfolding substitute pending_calls
no_reply_after_pruning t a rest n = never tt refl (after_every (tt, (λ q k. after_every (tt, (tt, λ q j. after_every (tt, (tt, tt), λ w. (λ r. bound w, λ r. bound w))), tt), other), tt))
  where
    bound : (w : ℕ) → Refused plain 5 (site_call 0 (value w)) (did 5 (called 0 0) ∷ did 5 (out 0) ∷ did t a ∷ rest) n
    bound w = after_every (λ q k. after_every (λ r. after_every tt))

pub no_time_over_a_due_call : NoTimeOverADueCall
unfolding pending_calls
no_time_over_a_due_call =
    record {
      no_later_act = λ t a rest n h. never tt refl (after_every (λ q k. record { none = λ x. let z = x.1.passes.1 in omega arith }, other));
      no_later_end = λ n h. never tt refl (after_every (λ q k. record { none = λ x. let z = x.1 in omega arith }, other));
    }

pub no_second_reply : NoSecondReply
unfolding pending_calls can_stand within_reach can_reply
no_second_reply =
    record {
      one_reply = λ n h. shown tt refl (
          act 1 (search passing) calls (
          act 2 (search passing) (replies refl) (
          over h)));
      none_behind_it = λ t a rest n. never tt refl (after_every (λ q k. after_every (λ r. after_every tt)));
    }
