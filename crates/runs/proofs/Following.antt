-- Every timed trace of the goal is recorded, or followed up to a limit. Assumes nothing.
use Rattle.std.proofs.Common.{◌≡◌, ℕ, suc, ◌+◌, ◌-◌, ◌<◌, ◌≤◌, ◌⊎◌, List, [], ◌∷◌, ◌++◌, Ok, sym, refl, ap, ◌∙◌, subst, inl, inr, append_assoc, arith}
use Rattle.std.proofs.ByRecursion.{All-push}
use Rattle.std.proofs.lemmas.List.{append-nil}
use Rattle.std.proofs.lemmas.Bool.{cases_order}
use Rattle.orc.specs.Meaning.{Meaning, Lawful}
use Rattle.orc.specs.Expressions.{Expression, World}
use Rattle.orc.specs.Calls.{Pending}
use Rattle.orc.specs.Steps.{Act, Leaf, Step, Pass}
use Rattle.orc.specs.Executions.{did, Moves, acts, Execution}
use Rattle.orc.specs.Files.{File, world, WellFormed}
use Rattle.orc.proofs.Alike.{simplification_keeps_executions, tickets_are_unseen}
use Rattle.orc.proofs.Composing.{traces_are_executions}
use Rattle.orc.proofs.Times.{pass_ordered, execution_timely, execution_later, timely_ordered}
use Rattle.runs.specs.declared.call.Call.{Call}
use Rattle.runs.specs.declared.call.Call.TheVariants.{Wait}
use Rattle.runs.specs.States.{Entry, State, world_of, begun}
use Rattle.runs.specs.Outcomes.{stepped, waited, Outcome}
use Rattle.runs.specs.Histories.{start, after}
use Rattle.runs.specs.Bounds.{Holds}
use Rattle.runs.specs.Recording.{listed, InRange, Reached, Recorded, wait_to_event, wait_to_end, make_event, Followed}
use Rattle.runs.specs.Moving.{call_of}
use Rattle.runs.specs.Faithful.{EveryTraceIsRecorded, ForAllFiles}
use Rattle.runs.proofs.Keeping.{goal_nothing_pending, definitions_kept}
use Rattle.runs.proofs.Holding.{held_at_begin}
use Rattle.runs.proofs.Settling.{settled_same, waited_same}
use Rattle.runs.proofs.Lasting.{held_along, loaded_along}
use Rattle.runs.proofs.Making.{takes_leaf, made_or_limited, can_be_waited, can_be_made}

-- the step of an event, at its tick, with some ticket
record Acting (W : World) (t : ℕ) (e : Expression) (a : Act) (e' : Expression) : Type 0 where
  ticket : ℕ
  leaf : Leaf
  gone : List Pending
  step : Step W t ticket e leaf a gone e'

acting : {W : World} {t : ℕ} {e e' : Expression} {a : Act} → Moves W e (did t a) e' → Acting W t e a e'
acting (acts st) = record { ticket = _; leaf = _; gone = _; step = st }

reached_more : {m : Meaning} {file : File} {s s' : State} {c : Call} → Reached m file s → InRange c → Outcome m s c (Ok tt) s' → Reached m file s'
reached_more {c = c} r i o =
    record {
      calls = r.calls ++ (c ∷ []);
      responses = r.responses ++ (Ok tt ∷ []);
      history = after r.history o;
      accepted = All-push (λ r. r ≡ Ok tt) r.responses (Ok tt) r.accepted refl;
      in_range = All-push InRange r.calls c r.in_range i;
    }

module _ (m : Meaning) (file : File) (laws : Lawful m) (w : WellFormed m file) (all : List Entry) (n : ℕ) (ends : n ≤ 4294967295) where
  abbrev Ends : Type 0
  Ends = Recorded m file all n ⊎ Followed m file all n

  holds : {s : State} → Reached m file s → Holds m s
  holds r = held_along laws (held_at_begin m file w) r.history

  -- the state s has recorded the events before rest, which its expression can show
  record Before (s : State) (rest : List Entry) : Type 0 where
    reached : Reached m file s
    recorded : s.events ++ rest ≡ all
    execution : Execution (world_of m s) s.clock s.expression (listed rest) n

  -- the wait up to the end
  to_end : (s : State) → Before s [] → s.clock < n → Ends
  to_end s b early =
      let d = n - s.clock in
      let q : s.clock + d ≡ n = omega arith in
      elim (can_be_waited (loaded_along b.reached.history) d (subst (λ u. Pass (world_of m s) s.clock u s.expression) (sym q) b.execution)) [
        | inl o ↦ inl (record { state = waited m s d; reached = reached_more b.reached (omega arith) o; same_events = sym (append-nil s.events) ∙ b.recorded; same_end = q })
        | inr o ↦ inr (record { state = s; reached = b.reached; rest = []; first_events = b.recorded; in_time = omega arith; needed = Wait d; needs = wait_to_end early q; needed_in_range = omega arith; limit = record { refusal = _; limit = refl; refused = o } })
      ]

  -- the go or answer that makes the next event, and then the rest
  make : (s : State) (x : Entry) (rest : List Entry) → Before s (x ∷ rest) → x.tick ≡ s.clock → ((s' : State) → Before s' rest → Ends) → Ends
  make s x rest b now more =
      let h = holds b.reached in
      let l = loaded_along b.reached.history in
      let a = acting (subst (λ t. Moves (world_of m s) s.expression (did t x.act) b.execution.0) now b.execution.1.moves) in
      let u = tickets_are_unseen (world_of m s) s.clock a.ticket (suc s.issued) s.expression b.execution.0 a.leaf x.act a.gone a.step in
      let t = takes_leaf {m = m} {s = s} a.leaf u.1 in
      let i = (can_be_made laws h.keeps l).in_range u.1 in
      let goes_on = (u.2 s.clock (listed rest) n).0 (subst (λ t. Execution (world_of m s) t b.execution.0 (listed rest) n) now b.execution.2) in
      let same : x ≡ record { tick = s.clock; act = x.act } = λ i. record { tick = now i; act = x.act } in
      elim (made_or_limited l t) [
        | inl o ↦ more (stepped m s (call_of a.leaf) x.act a.gone u.0) (record {
          reached = reached_more b.reached i o;
          recorded = append_assoc s.events (record { tick = s.clock; act = x.act } ∷ []) rest ∙ (ap (λ y. s.events ++ (y ∷ rest)) (sym same) ∙ b.recorded);
          execution = (settled_same laws h t (listed rest) n).0 goes_on;
        })
        | inr o ↦ inr (record { state = s; reached = b.reached; rest = x ∷ rest; first_events = b.recorded; in_time = execution_timely (world_of m s) s.clock n s.expression (listed (x ∷ rest)) b.execution; needed = call_of a.leaf; needs = make_event now t goes_on; needed_in_range = i; limit = o })
      ]

  -- the wait up to the next event, and then that event and the rest
  to_event : (s : State) (x : Entry) (rest : List Entry) → Before s (x ∷ rest) → s.clock < x.tick → ((s' : State) → Before s' rest → Ends) → Ends
  to_event s x rest b early more =
      let d = x.tick - s.clock in
      let q : s.clock + d ≡ x.tick = omega arith in
      let p = subst (λ u. Pass (world_of m s) s.clock u s.expression) (sym q) b.execution.1.passes in
      let timely = execution_timely (world_of m s) s.clock n s.expression (listed (x ∷ rest)) b.execution in
      let by-the-end = timely_ordered x.tick n (listed rest) timely.1 in
      let later = execution_later (world_of m s) s.clock (s.clock + d) n s.expression (listed (x ∷ rest)) (omega arith) (omega arith, timely.1) b.execution in
      elim (can_be_waited (loaded_along b.reached.history) d p) [
        | inl o ↦ make (waited m s d) x rest (record { reached = reached_more b.reached (omega arith) o; recorded = b.recorded; execution = (waited_same laws (holds b.reached) d p (listed (x ∷ rest)) n).0 later.1 }) (sym q) more
        | inr o ↦ inr (record { state = s; reached = b.reached; rest = x ∷ rest; first_events = b.recorded; in_time = timely; needed = Wait d; needs = wait_to_event early q; needed_in_range = omega arith; limit = record { refusal = _; limit = refl; refused = o } })
      ]

  follow : (rest : List Entry) (s : State) → Before s rest → Ends
  follow [] s b =
      let forward = pass_ordered (world_of m s) s.clock n s.expression b.execution in
      elim (cases_order s.clock n) [
        | inl q ↦ inl (record { state = s; reached = b.reached; same_events = sym (append-nil s.events) ∙ b.recorded; same_end = q })
        | inr (inl q) ↦ to_end s b q
        | inr (inr q) ↦ absurd (omega arith)
      ]
  follow (x ∷ rest) s b =
      let forward = pass_ordered (world_of m s) s.clock x.tick s.expression b.execution.1.passes in
      elim (cases_order s.clock x.tick) [
        | inl q ↦ make s x rest b (sym q) (λ s' b'. follow rest s' b')
        | inr (inl q) ↦ to_event s x rest b q (λ s' b'. follow rest s' b')
        | inr (inr q) ↦ absurd (omega arith)
      ]

pub every_trace_is_recorded : ForAllFiles EveryTraceIsRecorded
every_trace_is_recorded m file laws w es n ends t =
    let goal = traces_are_executions (world m file) t.depth 0 n file.goal (listed es) (definitions_kept m file w).sound.nothing_pending (goal_nothing_pending m file w) t.timely t.trace in
    follow m file laws w es n ends es (begun file) (record {
      reached = record { calls = []; responses = []; history = start; accepted = tt; in_range = tt };
      recorded = refl;
      execution = (simplification_keeps_executions (world m file) (definitions_kept m file w).sound.closed 0 file.goal (listed es) n).0 goal;
    })
