-- How a wait is judged. Assumes nothing.
use Rattle.std.proofs.Common.{◌≡◌, ℕ, ◌+◌, ◌<◌, ◌≤◌, Bool, true, false, not, ◌⊎◌, List, sym, refl, ap, ◌∙◌, subst, inl, inr, ⊎_elim, arith}
use Rattle.std.specs.List.{AllByRecursion}
use Rattle.std.proofs.ByRecursion.{All-weaker}
use Rattle.orc.specs.Meaning.{Meaning, can_stand}
use Rattle.orc.specs.Calls.{due_count, Pending, pending_calls, handle_at}
use Rattle.orc.specs.Steps.{Pass}
use Rattle.forms.specs.Reading.{expression_of}
use Rattle.walks.specs.Contents.{content}
use Rattle.runs.specs.declared.call.Call.TheVariants.{Wait}
use Rattle.runs.specs.declared.refusal.Refusal.TheVariants.{DueFirst, Overdue, ClockEnd}
use Rattle.runs.specs.States.{world_of}
use Rattle.runs.specs.Outcomes.{First, late, last_clock, Refuses, is_due_first, is_overdue, is_clock_end}
use Rattle.runs.proofs.Passing.{pass_when}
use Rattle.engine.specs.declared.plain.Plain.{Plain}
use Rattle.engine.specs.Stands.{state_of}
use Rattle.engine.specs.Moves.{CanPass}

not_late : (b : Bool) → not b ≡ false → b ≡ true
not_late true h = refl
not_late false h = sym h

-- The run p is to wait d ticks. Its form is read from its bytes again, and the clock then is a tick.
module _ (m : Meaning) (p : Plain) (d : ℕ) (loaded : (state_of p).loaded ≡ true) (bs : List ℕ) (same : bs ≡ content p.form) (due : ℕ) (count : due ≡ due_count (expression_of bs)) where
  counted : due ≡ due_count (state_of p).expression
  counted = count ∙ ap (λ l. due_count (expression_of l)) same

  pub due_first : 0 < d → 0 < due → Refuses m (state_of p) (Wait d) (DueFirst due)
  due_first long some = subst (λ n. Refuses m (state_of p) (Wait d) (DueFirst n)) (sym counted) (is_due_first loaded long (subst (λ n. 0 < n) counted some))

  pub none_due : due ≤ 0 → due_count (state_of p).expression ≡ 0
  none_due h = omega (arith, counted)

  module _ (idle : (d ≡ 0) ⊎ (due_count (state_of p).expression ≡ 0)) (tick : ℕ) (now : tick ≡ p.clock + d) where
    pub late_one : (k : ℕ) (q : Pending) → First (late m tick) (pending_calls (expression_of bs)) q → q.ticket ≡ k → Refuses m (state_of p) (Wait d) (Overdue k)
    late_one k q first is =
        let there = subst (λ l. First (late m tick) (pending_calls (expression_of l)) q) same first in
        let then = subst (λ t. First (late m t) (pending_calls (state_of p).expression) q) now there in
        subst (λ j. Refuses m (state_of p) (Wait d) (Overdue j)) is (is_overdue loaded idle then)

    module _ (none : AllByRecursion (λ q. late m tick q ≡ false) (pending_calls (expression_of bs))) where
      pub can_go_by : Pass (world_of m (state_of p)) p.clock (p.clock + d) (state_of p).expression
      can_go_by =
          let there = subst (λ l. AllByRecursion (λ q. late m tick q ≡ false) (pending_calls (expression_of l))) same none in
          let then = subst (λ t. AllByRecursion (λ q. late m t q ≡ false) (pending_calls (state_of p).expression)) now there in
          pass_when (world_of m (state_of p)) p.clock (p.clock + d) (state_of p).expression (omega arith)
          (⊎_elim (λ z. inl (omega arith)) inr idle)
          (All-weaker _ _ (λ q h. not_late (can_stand (handle_at m q) q.since (p.clock + d)) h) (pending_calls (state_of p).expression) then)

      pub past_end : last_clock < tick → Refuses m (state_of p) (Wait d) (ClockEnd p.clock)
      past_end far = is_clock_end loaded can_go_by (omega arith)

      pub can_pass : tick ≤ last_clock → CanPass m (state_of p) d
      can_pass near = record { loaded = loaded; passes = can_go_by; in_time = omega arith }
