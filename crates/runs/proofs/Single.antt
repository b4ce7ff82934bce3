-- Each call has one outcome: the computed one. Assumes nothing.
use Rattle.std.proofs.Common.{◌≡◌, ℕ, suc, ◌+◌, true, false, ◌&&◌, ltb, ◌⊎◌, List, length, Some, None, Err, Option, sym, refl, ap, ◌∙◌, subst, inl, inr, arith}
use Rattle.std.proofs.ByRecursion.{All-weaker}
use Rattle.std.proofs.lemmas.Bool.{ltb-true, ltb-false, leb-true, leb-false, eqb-true, eq-eqb, lt-ltb, le-ltb, le-leb, lt-leb, and_parts, and_cases, and_from, and_left, and_right, not-false, not_from_true, cond_both, cond-true, cond-false}
use Rattle.orc.specs.Meaning.{Meaning}
use Rattle.orc.specs.Expressions.{Expression, size}
use Rattle.orc.specs.Calls.{Pending, pending_calls, due_count}
use Rattle.orc.specs.Steps.{Act, Leaf, due, reply, Step, Pass}
use Rattle.orc.specs.Laws.{Answered, none_answered, one_answered}
use Rattle.orc.proofs.Keeping.{kept_by_steps}
use Rattle.orc.proofs.Leaves.{determined}
use Rattle.orc.proofs.Alike.{pass_stands}
use Rattle.runs.specs.declared.call.Call.{Call}
use Rattle.runs.specs.declared.call.Call.TheVariants.{Go, Answer, Wait}
use Rattle.runs.specs.declared.refusal.Refusal.TheVariants.{NotLoaded, OutsideEveryWindow}
use Rattle.runs.specs.States.{State, world_of}
use Rattle.runs.specs.Tickets.{has_ticket}
use Rattle.runs.specs.Outcomes.{Response, largest_form, longest_record, last_clock, Takes, by_go, by_answer, settled, late, Refuses, is_not_loaded, is_none_due, is_not_standing, is_outside_every_window, is_record_full, is_outgrown, is_due_first, is_overdue, is_clock_end, Outcome, refuses, takes, passes}
use Rattle.runs.specs.Bounds.{Keeps}
use Rattle.runs.specs.Moving.{OneOutcome}
use Rattle.runs.proofs.Counts.{none_passes, all_fail}
use Rattle.runs.proofs.Finding.{find, find_first, find_none, find_only, Found, found, first_passes, first_has}
use Rattle.runs.proofs.Keeping.{sound_over}
use Rattle.runs.proofs.Passing.{pass_when, pass_due}
use Rattle.runs.proofs.Computing.{Effect, tried, moving_now, answered, passed, loaded_outcome, outcome}
use Rattle.runs.proofs.Effects.{Makes, due_makes, reply_makes}

module _ (m : Meaning) (s : State) where
  -- what is computed is an outcome
  abbrev pub IsOutcome : Call → Response × State → Type 0
  IsOutcome c x = Outcome m s c x.0 x.1

  tried_is : (c : Call) (x : Effect) → s.loaded ≡ true → Takes m s c x.act x.gone x.result → IsOutcome c (tried m s c x)
  tried_is c x l t =
      cond_both _ _ _ (IsOutcome c) (λ full. refuses (is_record_full l t (leb-true longest_record (length s.events) full))) (λ room.
      let short = leb-false longest_record (length s.events) room in
      cond_both _ _ _ (IsOutcome c) (λ large. refuses (is_outgrown l t short (ltb-true largest_form (size (settled m s c x.result)) large))) (λ fits. takes l t short (ltb-false largest_form (size (settled m s c x.result)) fits)))

  module _ (h : Keeps s) where
    answered_is : (k v : ℕ) → s.loaded ≡ true → (o : Option Pending) → Found (has_ticket k) (pending_calls s.expression) o → IsOutcome (Answer k v) (answered m s k v o)
    answered_is k v l None f = refuses (is_not_standing l (none_passes (has_ticket k) (pending_calls s.expression) f))
    answered_is k v l (Some p) f =
        let z : p.ticket ≡ k = sym (eqb-true k p.ticket (first_passes f)) in
        let w = world_of m s in
        cond_both _ _ _ (IsOutcome (Answer k v))
        (λ r. tried_is (Answer k v) (moving_now m s (reply k v)) l (by_answer (subst (λ j. Makes w s.clock (suc s.issued) s.expression (reply j v) (moving_now m s (reply j v))) z (reply_makes w s.clock (suc s.issued) s.expression h.expression_kept.unbegun h.expression_kept.distinct p (first_has f) v r))))
        (λ r. refuses (subst (λ j. Refuses m s (Answer j v) (OutsideEveryWindow j)) z (is_outside_every_window p l (first_has f) r)))

    passed_is : (d : ℕ) → s.loaded ≡ true → (d ≡ 0) ⊎ (due_count s.expression ≡ 0) → (o : Option Pending) → Found (late m (s.clock + d)) (pending_calls s.expression) o → IsOutcome (Wait d) (passed m s d o)
    passed_is d l c None f =
        let still : (s.clock + d ≡ s.clock) ⊎ (due_count s.expression ≡ 0) = elim c [ inl q ↦ inl (omega arith) | inr q ↦ inr q ] in
        let p = pass_when (world_of m s) s.clock (s.clock + d) s.expression (omega arith) still (All-weaker _ _ (λ p q. not-false _ q) (pending_calls s.expression) f) in
        cond_both _ _ _ (IsOutcome (Wait d)) (λ far. refuses (is_clock_end l p (ltb-true last_clock (s.clock + d) far))) (λ near. passes l p (ltb-false last_clock (s.clock + d) near))
    passed_is d l c (Some p) f = refuses (is_overdue l c f)

    loaded_is : s.loaded ≡ true → (c : Call) → IsOutcome c (loaded_outcome m s c)
    loaded_is l (Go n) =
        cond_both _ _ _ (IsOutcome (Go n))
        (λ a. tried_is (Go n) (moving_now m s (due n)) l (by_go (due_makes (world_of m s) s.clock (suc s.issued) s.expression h.expression_kept.numbers n (ltb-true n (due_count s.expression) a))))
        (λ a. refuses (is_none_due l (ltb-false n (due_count s.expression) a)))
    loaded_is l (Answer k v) = answered_is k v l (find (has_ticket k) (pending_calls s.expression)) (found (has_ticket k) (pending_calls s.expression))
    loaded_is l (Wait d) =
        cond_both _ _ _ (IsOutcome (Wait d))
        (λ a. let q = and_parts _ _ a in refuses (is_due_first l (ltb-true 0 d q.0) (ltb-true 0 (due_count s.expression) q.1)))
        (λ a. passed_is d l (elim (and_cases (ltb 0 d) (ltb 0 (due_count s.expression)) a) [ inl q ↦ inl (omega (arith, ltb-false 0 d q)) | inr q ↦ inr (omega (arith, ltb-false 0 (due_count s.expression) q)) ]) (find (late m (s.clock + d)) (pending_calls s.expression)) (found (late m (s.clock + d)) (pending_calls s.expression)))

    -- Each call has an outcome.
    pub computed_is : (c : Call) → IsOutcome c (outcome m s c)
    computed_is c = cond_both s.loaded (loaded_outcome m s c) (Err NotLoaded, s) (IsOutcome c) (λ l. loaded_is l c) (λ l. refuses (is_not_loaded l))

    -- the transition that a call names is the computed one
    same_effect : {l : Leaf} {a : Act} {gone : List Pending} {e : Expression} → Step (world_of m s) s.clock (suc s.issued) s.expression l a gone e → Makes (world_of m s) s.clock (suc s.issued) s.expression l (moving_now m s l) → moving_now m s l ≡ record { act = a; gone = gone; result = e }
    same_effect st st' = let q = (determined (world_of m s) s.expression (sound_over m h.expression_kept)).one_outcome st' st in λ i. record { act = q.0 i; gone = q.1 i; result = q.2 i }

    go_tried : {n : ℕ} {a : Act} {gone : List Pending} {e : Expression} {ps : List Pending} → Step (world_of m s) s.clock (suc s.issued) s.expression (due n) a gone e → Answered (world_of m s) s.clock s.expression (due n) ps → loaded_outcome m s (Go n) ≡ tried m s (Go n) (record { act = a; gone = gone; result = e })
    go_tried {n} st (none_answered b) =
        cond-true _ _ _ (lt-ltb n (due_count s.expression) b) ∙ ap (tried m s (Go n)) (same_effect st (due_makes (world_of m s) s.clock (suc s.issued) s.expression h.expression_kept.numbers n b))

    answer_tried : {k v : ℕ} {a : Act} {gone : List Pending} {e : Expression} {ps : List Pending} → Step (world_of m s) s.clock (suc s.issued) s.expression (reply k v) a gone e → Answered (world_of m s) s.clock s.expression (reply k v) ps → loaded_outcome m s (Answer k v) ≡ tried m s (Answer k v) (record { act = a; gone = gone; result = e })
    answer_tried {v = v} st (one_answered {p} b r) =
        let k = p.ticket in
        ap (answered m s k v) (find_only (has_ticket k) (pending_calls s.expression) p (h.expression_kept.distinct k) b (eq-eqb k k refl))
        ∙ (cond-true _ _ _ r ∙ ap (tried m s (Answer k v)) (same_effect st (reply_makes (world_of m s) s.clock (suc s.issued) s.expression h.expression_kept.unbegun h.expression_kept.distinct p b v r)))

    taken_tried : {c : Call} {a : Act} {gone : List Pending} {e : Expression} → Takes m s c a gone e → loaded_outcome m s c ≡ tried m s c (record { act = a; gone = gone; result = e })
    taken_tried (by_go st) = go_tried st ((kept_by_steps (world_of m s) h.definitions_kept.sound).accounted st h.expression_kept.unbegun).by_the_leaf
    taken_tried (by_answer st) = answer_tried st ((kept_by_steps (world_of m s) h.definitions_kept.sound).accounted st h.expression_kept.unbegun).by_the_leaf

    loaded_first : (c : Call) {x : Response × State} → s.loaded ≡ true → loaded_outcome m s c ≡ x → outcome m s c ≡ x
    loaded_first c l q = cond-true _ _ _ l ∙ q

    -- no call is in the way of d ticks
    clear_way : (d : ℕ) → (d ≡ 0) ⊎ (due_count s.expression ≡ 0) → (ltb 0 d && ltb 0 (due_count s.expression)) ≡ false
    clear_way d (inl q) = and_left (ltb 0 d) (ltb 0 (due_count s.expression)) (le-ltb 0 d (omega arith))
    clear_way d (inr q) = and_right (ltb 0 d) (ltb 0 (due_count s.expression)) (le-ltb 0 (due_count s.expression) (omega arith))

    pass_tried : (d : ℕ) → Pass (world_of m s) s.clock (s.clock + d) s.expression → loaded_outcome m s (Wait d) ≡ passed m s d None
    pass_tried d p =
        let c : (d ≡ 0) ⊎ (due_count s.expression ≡ 0) = elim (pass_due (world_of m s) s.clock (s.clock + d) s.expression p) [ inl q ↦ inl (omega arith) | inr q ↦ inr q ] in
        let a = pass_stands (world_of m s) s.clock (s.clock + d) s.expression h.expression_kept.unbegun p in
        cond-false _ _ _ (clear_way d c) ∙ ap (passed m s d) (find_none (late m (s.clock + d)) (pending_calls s.expression) (All-weaker _ _ (λ p q. not_from_true _ q) (pending_calls s.expression) a))

    refused_is : {c : Call} {r : _} → Refuses m s c r → outcome m s c ≡ (Err r, s)
    refused_is (is_not_loaded l) = cond-false _ _ _ l
    refused_is (is_none_due {n} l b) = loaded_first (Go n) l (cond-false _ _ _ (le-ltb n (due_count s.expression) b))
    refused_is (is_not_standing {k} {v} l b) = loaded_first (Answer k v) l (ap (answered m s k v) (find_none (has_ticket k) (pending_calls s.expression) (all_fail (has_ticket k) (pending_calls s.expression) b)))
    refused_is (is_outside_every_window {v} p l b r) =
        loaded_first (Answer p.ticket v) l (ap (answered m s p.ticket v) (find_only (has_ticket p.ticket) (pending_calls s.expression) p (h.expression_kept.distinct p.ticket) b (eq-eqb p.ticket p.ticket refl)) ∙ cond-false _ _ _ r)
    refused_is (is_record_full {c} l t full) = loaded_first c l (taken_tried t ∙ cond-true _ _ _ (le-leb longest_record (length s.events) full))
    refused_is (is_outgrown {c} {e = e} l t short large) = loaded_first c l (taken_tried t ∙ (cond-false _ _ _ (lt-leb longest_record (length s.events) short) ∙ cond-true _ _ _ (lt-ltb largest_form (size (settled m s c e)) large)))
    refused_is (is_due_first {d} l a b) = loaded_first (Wait d) l (cond-true _ _ _ (and_from _ _ (lt-ltb 0 d a) (lt-ltb 0 (due_count s.expression) b)))
    refused_is (is_overdue {d} l c f) = loaded_first (Wait d) l (cond-false _ _ _ (clear_way d c) ∙ ap (passed m s d) (find_first (late m (s.clock + d)) f))
    refused_is (is_clock_end {d} l p far) = loaded_first (Wait d) l (pass_tried d p ∙ cond-true _ _ _ (lt-ltb last_clock (s.clock + d) far))

    -- It has no other.
    pub only_computed : {c : Call} {r : Response} {s' : State} → Outcome m s c r s' → outcome m s c ≡ (r, s')
    only_computed (refuses x) = refused_is x
    only_computed (takes {c} {e = e} l t short fits) = loaded_first c l (taken_tried t ∙ (cond-false _ _ _ (lt-leb longest_record (length s.events) short) ∙ cond-false _ _ _ (le-ltb largest_form (size (settled m s c e)) fits)))
    only_computed (passes {d} l p near) = loaded_first (Wait d) l (pass_tried d p ∙ cond-false _ _ _ (le-ltb last_clock (s.clock + d) near))

    pub one_outcome : (c : Call) → OneOutcome m s c
    one_outcome c = record { response = (outcome m s c).0; next = (outcome m s c).1; outcome = computed_is c; only = λ o. let q = only_computed o in (ap (λ x. x.0) (sym q), ap (λ x. x.1) (sym q)) }
