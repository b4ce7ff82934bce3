-- Operands that pass their tests go on passing them: so they stay in range, and sites known. Assumes nothing.
use Rattle.std.proofs.Common.{◌≡◌, ℕ, zero, suc, ◌≤◌, Bool, true, ◌&&◌, eqb, leb, List, [], ◌∷◌, length, Some, refl, subst, ⊎_elim, arith}
use Rattle.std.specs.List.{AllByRecursion}
use Rattle.std.proofs.ByRecursion.{All-append}
use Rattle.std.proofs.lemmas.Bool.{and_parts, and_from, or_cases, leb-true, le-leb, ltb-true, cond_both}
use Rattle.std.proofs.lemmas.Bool.Decides.{nat_tests}
use Rattle.orc.specs.Meaning.{Window, Meaning, handle, within_reach, some, admits, can_reply, is_known, SoundWindow, Lawful}
use Rattle.orc.specs.Expressions.{Parameter, value, variable, Expression, stop, site_call, definition_call, parallel, sequential, pruning, pending, Definition, World, entry}
use Rattle.orc.specs.Variables.{replaced, substitute}
use Rattle.orc.specs.Simplified.{simplified}
use Rattle.orc.specs.Calls.{Pending, pending_calls, lapsed}
use Rattle.orc.specs.Steps.{Act, called, inner, out, Leaf, Step, calls, unfolds, replies, parallel_left, parallel_right, sequential_keeps, sequential_spawns, pruning_left, pruning_keeps, pruning_binds}
use Rattle.orc.specs.Files.{proper_parameter, proper}
use Rattle.orc.specs.Sound.{NumbersWithin}
use Rattle.orc.proofs.Simplifying.{by_parallel, by_sequential, by_pruning}
use Rattle.runs.specs.Bounds.{parameter_passes, operands_pass, Ranged, Known}

-- what a number leads to has what each element has
all_entry : {X : Type 0} (P : X → Type 0) (xs : List X) (i : ℕ) (x : X) → AllByRecursion P xs → entry xs i ≡ Some x → P x
all_entry P [] i x a h = let z : ◌≡◌ {A = ℕ} 0 1 = cc in absurd (omega arith)
all_entry P (y ∷ ys) zero x a h = let z : y ≡ x = cc in subst P z a.0
all_entry P (y ∷ ys) (suc i) x a h = all_entry P ys i x a.1 h

and_three : (x y z : Bool) → x ≡ true → y ≡ true → z ≡ true → (x && (y && z)) ≡ true
and_three x y z p q r = and_from x (y && z) p (and_from y z q r)

module _ (S X V : ℕ → Bool) where
  abbrev Passes : Expression → Type 0
  Passes e = operands_pass S X V e ≡ true

  two : (f g : Expression) → (operands_pass S X V f && operands_pass S X V g) ≡ true → Passes f × Passes g
  two f g = and_parts (operands_pass S X V f) (operands_pass S X V g)

  three : (x : ℕ) (f g : Expression) → (X x && (operands_pass S X V f && operands_pass S X V g)) ≡ true → (X x ≡ true) × Passes f × Passes g
  three x f g h = let q = and_parts (X x) _ h in let r = two f g q.1 in (q.0, r.0, r.1)

  replaced_passes : (v x : ℕ) (p : Parameter) → V v ≡ true → parameter_passes X V p ≡ true → parameter_passes X V (replaced v x p) ≡ true
  replaced_passes v x (value w) h r = r
  replaced_passes v x (variable y) h r = cond_both (eqb x y) (value v) (variable y) (λ p. parameter_passes X V p ≡ true) (λ _. h) (λ _. r)

  -- a value that passes goes in for a variable
  substitute_passes : (v x : ℕ) → V v ≡ true → (e : Expression) → Passes e → Passes (substitute v x e)
  unfolding operands_pass substitute
  substitute_passes v x h stop r = refl
  substitute_passes v x h (site_call s p) r = let q = and_parts (S s) _ r in and_from (S s) _ q.0 (replaced_passes v x p h q.1)
  substitute_passes v x h (definition_call i p) r = replaced_passes v x p h r
  substitute_passes v x h (parallel f g) r = let q = two f g r in and_from _ _ (substitute_passes v x h f q.0) (substitute_passes v x h g q.1)
  substitute_passes v x h (sequential y f g) r = let q = three y f g r in and_three _ _ _ q.0 (substitute_passes v x h f q.1) (cond_both (eqb x y) g (substitute v x g) Passes (λ _. q.2) (λ _. substitute_passes v x h g q.2))
  substitute_passes v x h (pruning y f g) r = let q = three y f g r in and_three _ _ _ q.0 (cond_both (eqb x y) f (substitute v x f) Passes (λ _. q.1) (λ _. substitute_passes v x h f q.1)) (substitute_passes v x h g q.2)
  substitute_passes v x h (pending k s w c) r = r

  pub simplified_passes : (e : Expression) → Passes e → Passes (simplified e)
  unfolding operands_pass simplified
  simplified_passes stop r = refl
  simplified_passes (site_call s p) r = r
  simplified_passes (definition_call i p) r = r
  simplified_passes (parallel f g) r =
      let q = two f g r in
      let a = simplified_passes f q.0 in
      let b = simplified_passes g q.1 in
      by_parallel Passes (simplified f) (simplified g) (λ _. b) (λ _. a) (λ _. and_from _ _ a b)
  simplified_passes (sequential x f g) r = let q = three x f g r in by_sequential Passes x (simplified f) (simplified g) (λ _. refl) (λ _. and_three _ _ _ q.0 (simplified_passes f q.1) (simplified_passes g q.2))
  simplified_passes (pruning x f g) r =
      let q = three x f g r in
      let a = simplified_passes f q.1 in
      by_pruning Passes x (simplified f) (simplified g) (λ _ _. a) (λ _. and_three _ _ _ q.0 a (simplified_passes g q.2))
  simplified_passes (pending k s v c) r = r

  pub lapsed_passes : (m : Meaning) (n : ℕ) (e : Expression) → Passes e → Passes (lapsed m n e)
  unfolding operands_pass lapsed
  lapsed_passes m n stop r = refl
  lapsed_passes m n (site_call s p) r = r
  lapsed_passes m n (definition_call i p) r = r
  lapsed_passes m n (parallel f g) r = let q = two f g r in and_from _ _ (lapsed_passes m n f q.0) (lapsed_passes m n g q.1)
  lapsed_passes m n (sequential x f g) r = let q = three x f g r in and_three _ _ _ q.0 (lapsed_passes m n f q.1) (lapsed_passes m n g q.2)
  lapsed_passes m n (pruning x f g) r = let q = three x f g r in and_three _ _ _ q.0 (lapsed_passes m n f q.1) (lapsed_passes m n g q.2)
  lapsed_passes m n (pending k s v c) r = cond_both (within_reach (handle m s v) c n) (pending k s v c) stop Passes (λ _. r) (λ _. refl)

  -- so do the operands of each pending call
  pub pending_pass : (e : Expression) → Passes e → AllByRecursion (λ p. (S p.site ≡ true) × (V p.argument ≡ true)) (pending_calls e)
  unfolding operands_pass pending_calls
  pending_pass stop r = tt
  pending_pass (site_call s p) r = tt
  pending_pass (definition_call i p) r = tt
  pending_pass (parallel f g) r = let q = two f g r in All-append _ (pending_calls f) (pending_calls g) (pending_pass f q.0) (pending_pass g q.1)
  pending_pass (sequential x f g) r = let q = three x f g r in All-append _ (pending_calls f) (pending_calls g) (pending_pass f q.1) (pending_pass g q.2)
  pending_pass (pruning x f g) r = let q = three x f g r in All-append _ (pending_calls f) (pending_calls g) (pending_pass f q.1) (pending_pass g q.2)
  pending_pass (pending k s v c) r = (and_parts (S s) (V v) r, tt)

  -- an act calls a site that passes with a value that passes, and publishes such values
  abbrev ActPasses : Act → Type 0
  ActPasses (called s v) = (S s ≡ true) × (V v ≡ true)
  ActPasses inner = Unit {0}
  ActPasses (out w) = V w ≡ true

  -- A transition keeps that, if each reply to a value that passes does.
  step_passes : {W : World} {t k : ℕ} {e e' : Expression} {l : Leaf} {a : Act} {gone : List Pending} → ((s v c w : ℕ) → V v ≡ true → can_reply (handle W.meaning s v) c t w ≡ true → V w ≡ true) → AllByRecursion (λ d. Passes d.body) W.definitions → Step W t k e l a gone e' → Passes e → Passes e' × ActPasses a
  unfolding operands_pass
  step_passes fits ds (calls {s} {v}) r = (r, and_parts (S s) (V v) r)
  step_passes {W} fits ds (unfolds {i} {v} d h) r = (substitute_passes v d.formal r d.body (all_entry (λ d. Passes d.body) W.definitions i d ds h), tt)
  step_passes {W} {t} fits ds (replies {j} {s} {v} {c} {w} h) r = (refl, fits s v c w (and_parts (S s) (V v) r).1 h)
  step_passes fits ds (parallel_left {f} {g} s) r = let q = two f g r in let h = step_passes fits ds s q.0 in (and_from _ _ h.0 q.1, h.1)
  step_passes fits ds (parallel_right {f} {g} b s) r = let q = two f g r in let h = step_passes fits ds s q.1 in (and_from _ _ q.0 h.0, h.1)
  step_passes fits ds (sequential_keeps {x} {f} {g} k s) r = let q = three x f g r in let h = step_passes fits ds s q.1 in (and_three _ _ _ q.0 h.0 q.2, h.1)
  step_passes fits ds (sequential_spawns {x} {w} {f} {g} {f'} s) r =
      let q = three x f g r in
      let h = step_passes fits ds s q.1 in
      (and_from _ _ (and_three _ _ _ q.0 h.0 q.2) (substitute_passes w x h.1 g q.2), tt)
  step_passes fits ds (pruning_left {x} {f} {g} s) r = let q = three x f g r in let h = step_passes fits ds s q.1 in (and_three _ _ _ q.0 h.0 q.2, h.1)
  step_passes fits ds (pruning_keeps {x} {f} {g} b k s) r = let q = three x f g r in let h = step_passes fits ds s q.2 in (and_three _ _ _ q.0 q.1 h.0, h.1)
  step_passes fits ds (pruning_binds {x} {w} {f} {g} b s) r = let q = three x f g r in let h = step_passes fits ds s q.2 in (substitute_passes w x h.1 f q.1, tt)

  -- What is proper in a file passes tests that follow from what is asked there.
  proper_passes : (m : Meaning) (n : ℕ) → ((s : ℕ) → leb s 31 ≡ true → is_known (m s) ≡ true → S s ≡ true) → ((x : ℕ) → leb x 31 ≡ true → X x ≡ true) → ((v : ℕ) → leb v 65535 ≡ true → V v ≡ true) → (e : Expression) → proper m n e ≡ true → Passes e
  unfolding proper operands_pass
  proper_passes m n sites variables values = walk
    where
      parameter : (p : Parameter) → proper_parameter p ≡ true → parameter_passes X V p ≡ true
      parameter (value v) h = values v h
      parameter (variable x) h = variables x h

      walk : (e : Expression) → proper m n e ≡ true → Passes e
      walk stop h = refl
      walk (site_call s p) h =
          let q = and_parts (leb s 31) _ h in
          let r = and_parts _ (proper_parameter p) q.1 in
          and_from (S s) _ (sites s q.0 r.0) (parameter p r.1)
      walk (definition_call i p) h = parameter p (and_parts _ (proper_parameter p) h).1
      walk (parallel f g) h = let q = and_parts (proper m n f) (proper m n g) h in and_from _ _ (walk f q.0) (walk g q.1)
      walk (sequential x f g) h =
          let q = and_parts (leb x 31) _ h in
          let r = and_parts (proper m n f) (proper m n g) q.1 in
          and_three _ _ _ (variables x q.0) (walk f r.0) (walk g r.1)
      walk (pruning x f g) h =
          let q = and_parts (leb x 31) _ h in
          let r = and_parts (proper m n f) (proper m n g) q.1 in
          and_three _ _ _ (variables x q.0) (walk f r.0) (walk g r.1)
      walk (pending k s v c) h = absurd (let z : ◌≡◌ {A = ℕ} 0 1 = cc in omega arith)

-- a reply that a window admits is in range
admitted_fits : (c n v : ℕ) (ws : List Window) → AllByRecursion SoundWindow ws → some (admits c n v) ws ≡ true → v ≤ 65535
admitted_fits c n v [] a h = let z : ◌≡◌ {A = ℕ} 0 1 = cc in omega arith
admitted_fits c n v (w ∷ ws) a h =
    ⊎_elim (λ q. let b = a.0.highest_fits in grind (arith, nat_tests)) (admitted_fits c n v ws a.1) (or_cases (admits c n v w) (some (admits c n v) ws) h)

pub replies_fit : (m : Meaning) → Lawful m → (s v c n w : ℕ) → leb v 65535 ≡ true → can_reply (handle m s v) c n w ≡ true → leb w 65535 ≡ true
unfolding can_reply
replies_fit m laws s v c n w h r = le-leb w 65535 (admitted_fits c n w (handle m s v).windows (laws.ranges s v (omega (arith, leb-true v 65535 h))).sound r)

-- So a transition keeps operands in range, and sites known.
abbrev pub RangedAct : Act → Type 0
RangedAct = ActPasses (λ s. leb s 31) (λ x. leb x 31) (λ v. leb v 65535)

abbrev pub KnownAct : Meaning → Act → Type 0
KnownAct m = ActPasses (λ s. is_known (m s)) (λ x. true) (λ v. true)

pub ranged_step : {W : World} {t k : ℕ} {e e' : Expression} {l : Leaf} {a : Act} {gone : List Pending} → Lawful W.meaning → AllByRecursion (λ d. Ranged d.body) W.definitions → Step W t k e l a gone e' → Ranged e → Ranged e' × RangedAct a
ranged_step {W} {t} laws = step_passes _ _ _ (λ s v c w. replies_fit W.meaning laws s v c t w)

pub known_step : {W : World} {t k : ℕ} {e e' : Expression} {l : Leaf} {a : Act} {gone : List Pending} → AllByRecursion (λ d. Known W.meaning d.body) W.definitions → Step W t k e l a gone e' → Known W.meaning e → Known W.meaning e' × KnownAct W.meaning a
known_step = step_passes _ _ _ (λ s v c w h r. refl)

pub proper_ranged : (m : Meaning) (n : ℕ) (e : Expression) → proper m n e ≡ true → Ranged e
proper_ranged m n = proper_passes _ _ _ m n (λ s h k. h) (λ x h. h) (λ v h. h)

pub proper_known : (m : Meaning) (n : ℕ) (e : Expression) → proper m n e ≡ true → Known m e
proper_known m n = proper_passes _ _ _ m n (λ s h k. k) (λ x h. refl) (λ v h. refl)

-- It holds no pending call, and calls definitions that there are.
pub proper_numbers : (m : Meaning) (ds : List Definition) (e : Expression) → proper m (length ds) e ≡ true → NumbersWithin ds e
unfolding proper NumbersWithin
proper_numbers m ds stop h = tt
proper_numbers m ds (site_call s p) h = tt
proper_numbers m ds (definition_call i p) h = ltb-true i (length ds) (and_parts _ (proper_parameter p) h).0
proper_numbers m ds (parallel f g) h = let q = and_parts (proper m (length ds) f) (proper m (length ds) g) h in (proper_numbers m ds f q.0, proper_numbers m ds g q.1)
proper_numbers m ds (sequential x f g) h = let q = and_parts (proper m (length ds) f) (proper m (length ds) g) (and_parts (leb x 31) _ h).1 in (proper_numbers m ds f q.0, proper_numbers m ds g q.1)
proper_numbers m ds (pruning x f g) h = let q = and_parts (proper m (length ds) f) (proper m (length ds) g) (and_parts (leb x 31) _ h).1 in (proper_numbers m ds f q.0, proper_numbers m ds g q.1)
proper_numbers m ds (pending k s v c) h = tt

pub proper_nothing_pending : (m : Meaning) (n : ℕ) (e : Expression) → proper m n e ≡ true → pending_calls e ≡ []
unfolding proper pending_calls
proper_nothing_pending m n stop h = refl
proper_nothing_pending m n (site_call s p) h = refl
proper_nothing_pending m n (definition_call i p) h = refl
proper_nothing_pending m n (parallel f g) h = let q = and_parts (proper m n f) (proper m n g) h in rw (proper_nothing_pending m n f q.0) (proper_nothing_pending m n g q.1)
proper_nothing_pending m n (sequential x f g) h = let q = and_parts (proper m n f) (proper m n g) (and_parts (leb x 31) _ h).1 in rw (proper_nothing_pending m n f q.0) (proper_nothing_pending m n g q.1)
proper_nothing_pending m n (pruning x f g) h = let q = and_parts (proper m n f) (proper m n g) (and_parts (leb x 31) _ h).1 in rw (proper_nothing_pending m n f q.0) (proper_nothing_pending m n g q.1)
proper_nothing_pending m n (pending k s v c) h = absurd (let z : ◌≡◌ {A = ℕ} 0 1 = cc in omega arith)
