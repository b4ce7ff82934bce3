-- The computed effect of a leaf is that of its transition. Assumes nothing.
use Rattle.std.proofs.Common.{◌≡◌, ℕ, zero, suc, ◌-◌, ◌<◌, ◌≤◌, true, false, eqb, ltb, List, [], ◌∷◌, ◌++◌, length, Some, None, count_by, Option, sym, refl, ap, subst, inl, inr, arith}
use Rattle.std.specs.List.{ContainsAt as Has}
use Rattle.std.proofs.ByRecursion.{all-has}
use Rattle.std.proofs.lemmas.Bool.{ltb-true, ltb-false, cond_both, eq-eqb}
use Rattle.orc.specs.Meaning.{can_reply}
use Rattle.orc.specs.Expressions.{value, variable, Expression, stop, site_call, definition_call, parallel, sequential, pruning, pending, Definition, World, entry}
use Rattle.orc.specs.Calls.{Pending, pending_calls, handle_at, due_count, RightsUnbegun}
use Rattle.orc.specs.Steps.{Act, called, inner, out, keeps_call, keeps_inner, Leaf, due, reply, behind, Step, calls, unfolds, replies, parallel_left, parallel_right, sequential_keeps, sequential_spawns, pruning_left, pruning_keeps, pruning_binds}
use Rattle.orc.specs.Sound.{NumbersWithin, standing, DistinctTickets}
use Rattle.orc.proofs.Leaves.{count_parts}
use Rattle.runs.proofs.Finding.{has_parts, count_has}
use Rattle.runs.proofs.Computing.{Effect, in_left, ahead, unfolded, before, pruned_right, moving}

module _ (W : World) (t k : ℕ) where
  -- the effect is that of a transition
  abbrev pub Makes : Expression → Leaf → Effect → Type 0
  Makes e l x = Step W t k e l x.act x.gone x.result

  makes_before : (x : ℕ) (f g : Expression) (l : Leaf) (a : Act) {gone : List Pending} {f' : Expression} → Step W t k f l a gone f' → Makes (sequential x f g) l (before x g a gone f')
  makes_before x f g l (called s v) h = sequential_keeps keeps_call h
  makes_before x f g l inner h = sequential_keeps keeps_inner h
  makes_before x f g l (out w) h = sequential_spawns h

  makes_pruned : (x : ℕ) (f g : Expression) (l m : Leaf) (a : Act) {gone : List Pending} {g' : Expression} → m ≡ behind (due_count f) l → Step W t k g l a gone g' → Makes (pruning x f g) m (pruned_right x f a gone g')
  makes_pruned x f g l m (called s v) b h = pruning_keeps b keeps_call h
  makes_pruned x f g l m inner b h = pruning_keeps b keeps_inner h
  makes_pruned x f g l m (out w) b h = pruning_binds b h

  -- the whole makes the effect of the part in which the leaf stands
  in_parallel : (f g : Expression) (l : Leaf) → (in_left l f ≡ true → Makes f l (moving W t k f l)) → (in_left l f ≡ false → (l ≡ behind (due_count f) (ahead (due_count f) l)) × Makes g (ahead (due_count f) l) (moving W t k g (ahead (due_count f) l))) → Makes (parallel f g) l (moving W t k (parallel f g) l)
  unfolding moving
  in_parallel f g l left right =
      cond_both (in_left l f) _ _ (Makes (parallel f g) l) (λ h. parallel_left (left h)) (λ h. let r = right h in parallel_right r.0 r.1)

  in_pruning : (x : ℕ) (f g : Expression) (l : Leaf) → (in_left l f ≡ true → Makes f l (moving W t k f l)) → (in_left l f ≡ false → (l ≡ behind (due_count f) (ahead (due_count f) l)) × Makes g (ahead (due_count f) l) (moving W t k g (ahead (due_count f) l))) → Makes (pruning x f g) l (moving W t k (pruning x f g) l)
  unfolding moving
  in_pruning x f g l left right =
      cond_both (in_left l f) _ _ (Makes (pruning x f g) l) (λ h. pruning_left (left h)) (λ h. let r = right h in makes_pruned x f g (ahead (due_count f) l) l (moving W t k g (ahead (due_count f) l)).act r.0 r.1)

  unfolds_to : (i v : ℕ) (o : Option Definition) (l : Leaf) → entry W.definitions i ≡ o → i < length W.definitions → l ≡ due 0 → Makes (definition_call i (value v)) l (unfolded o v)
  unfolds_to i v None l q h z = absurd (missing W.definitions i q h)
    where
      missing : {X : Type 0} (xs : List X) (i : ℕ) → entry xs i ≡ None → i < length xs → ⊥
      missing [] i q h = omega arith
      missing (x ∷ xs) zero q h = let z : ◌≡◌ {A = ℕ} 0 1 = cc in omega arith
      missing (x ∷ xs) (suc i) q h = missing xs i q (omega arith)
  unfolds_to i v (Some d) l q h z = subst (λ l. Makes (definition_call i (value v)) l (unfolded (Some d) v)) (sym z) (unfolds d q)

  pub due_makes : (e : Expression) → NumbersWithin W.definitions e → (n : ℕ) → n < due_count e → Makes e (due n) (moving W t k e (due n))
  unfolding due_count NumbersWithin moving
  due_makes stop h n l = absurd (omega arith)
  due_makes (site_call s (value v)) h n l = subst (λ i. Step W t k (site_call s (value v)) (due i) (called s v) [] (pending k s v t)) (omega arith) calls
  due_makes (site_call s (variable x)) h n l = absurd (omega arith)
  due_makes (definition_call i (value v)) h n l = unfolds_to i v (entry W.definitions i) (due n) refl h (ap due (omega arith))
  due_makes (definition_call i (variable x)) h n l = absurd (omega arith)
  due_makes (parallel f g) h n l = in_parallel f g (due n) (λ a. due_makes f h.0 n (ltb-true n _ a)) (λ a. let b = ltb-false n (due_count f) a in (ap due (omega arith), due_makes g h.1 (n - due_count f) (omega arith)))
  due_makes (sequential x f g) h n l = makes_before x f g (due n) (moving W t k f (due n)).act (due_makes f h.0 n l)
  due_makes (pruning x f g) h n l = in_pruning x f g (due n) (λ a. due_makes f h.0 n (ltb-true n _ a)) (λ a. let b = ltb-false n (due_count f) a in (ap due (omega arith), due_makes g h.1 (n - due_count f) (omega arith)))
  due_makes (pending j s v c) h n l = absurd (omega arith)

  -- a reply to a ticket that stands in one part stands there alone
  in_one : (f g : Expression) (p : Pending) → ((j : ℕ) → count_by (λ p. eqb j p.ticket) (pending_calls f ++ pending_calls g) ≤ 1) → Has (pending_calls f ++ pending_calls g) p → (ltb 0 (standing p.ticket f) ≡ true → Has (pending_calls f) p) × (ltb 0 (standing p.ticket f) ≡ false → Has (pending_calls g) p)
  in_one f g p d h =
      let both = count_parts (λ q. eqb p.ticket q.ticket) (pending_calls f) (pending_calls g) in
      let one = d p.ticket in
      elim (has_parts (pending_calls f) (pending_calls g) p h) [
        | inl a ↦ (λ _. a, λ z. absurd (omega (arith, ltb-false 0 _ z, count_has (λ q. eqb p.ticket q.ticket) (pending_calls f) p a (eq-eqb _ _ refl))))
        | inr a ↦ (λ z. absurd (omega (arith, ltb-true 0 _ z, count_has (λ q. eqb p.ticket q.ticket) (pending_calls g) p a (eq-eqb _ _ refl))), λ _. a)
      ]

  distinct_parts : (f g : Expression) → ((j : ℕ) → count_by (λ p. eqb j p.ticket) (pending_calls f ++ pending_calls g) ≤ 1) → DistinctTickets f × DistinctTickets g
  distinct_parts f g d = (λ j. omega (arith, d j, count_parts (λ p. eqb j p.ticket) (pending_calls f) (pending_calls g)), λ j. omega (arith, d j, count_parts (λ p. eqb j p.ticket) (pending_calls f) (pending_calls g)))

  pub reply_makes : (e : Expression) → RightsUnbegun e → DistinctTickets e → (p : Pending) → Has (pending_calls e) p → (w : ℕ) → can_reply (handle_at W.meaning p) p.since t w ≡ true → Makes e (reply p.ticket w) (moving W t k e (reply p.ticket w))
  unfolding pending_calls RightsUnbegun moving
  reply_makes stop u d p h w r = absurd (omega (arith, h.1))
  reply_makes (site_call s q) u d p h w r = absurd (omega (arith, h.1))
  reply_makes (definition_call i q) u d p h w r = absurd (omega (arith, h.1))
  reply_makes (parallel f g) u d p h w r =
      let o = in_one f g p d h in
      let b = distinct_parts f g d in
      in_parallel f g (reply p.ticket w) (λ a. reply_makes f u.0 b.0 p (o.0 a) w r) (λ a. (refl, reply_makes g u.1 b.1 p (o.1 a) w r))
  reply_makes (sequential x f g) u d p h w r =
      let left : Has (pending_calls f) p = elim (has_parts (pending_calls f) (pending_calls g) p h) [ inl a ↦ a | inr a ↦ absurd (omega (arith, a.1, ap length u.1)) ] in
      makes_before x f g (reply p.ticket w) (moving W t k f (reply p.ticket w)).act (reply_makes f u.0 (distinct_parts f g d).0 p left w r)
  reply_makes (pruning x f g) u d p h w r =
      let o = in_one f g p d h in
      let b = distinct_parts f g d in
      in_pruning x f g (reply p.ticket w) (λ a. reply_makes f u.0 b.0 p (o.0 a) w r) (λ a. (refl, reply_makes g u.1 b.1 p (o.1 a) w r))
  reply_makes (pending j s v c) u d p h w r =
      all-has (λ p. can_reply (handle_at W.meaning p) p.since t w ≡ true → Step W t k (pending j s v c) (reply p.ticket w) (out w) [] stop) (pending_calls (pending j s v c)) p (λ r. replies r, tt) h r
