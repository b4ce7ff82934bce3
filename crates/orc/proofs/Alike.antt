-- Expressions that are alike from a tick on, and so have the same executions.
use Rattle.std.proofs.Common.{◌≡◌, ℕ, ◌≤◌, Bool, true, false, cond, eqb, List, [], ◌∷◌, ◌++◌, refl, subst, le_refl, arith}
use Rattle.std.specs.List.{AllByRecursion}
use Rattle.std.proofs.lemmas.Bool.{or_left, both_ways, cond_both}
use Rattle.std.proofs.ByRecursion.{All-append}
use Rattle.std.proofs.lemmas.Bool.Decides.{nat_tests}
use Rattle.orc.specs.Meaning.{Window, handle, reaches, admits, some, within_reach, can_stand, can_reply}
use Rattle.orc.specs.Expressions.{value, variable, Expression, stop, site_call, definition_call, parallel, sequential, pruning, pending, World}
use Rattle.orc.specs.Variables.{substitute, free}
use Rattle.orc.specs.Simplified.{simplified}
use Rattle.orc.specs.Calls.{Pending, pending_calls, lapsed, RightsUnbegun}
use Rattle.orc.specs.Steps.{Act, Leaf, Step, calls, unfolds, replies, parallel_left, parallel_right, sequential_keeps, sequential_spawns, pruning_left, pruning_keeps, pruning_binds, Pass}
use Rattle.orc.specs.Executions.{Event, tick, Moves, acts, takes_in, Execution}
use Rattle.orc.specs.Sound.{ClosedButFormal, AllCanStand}
use Rattle.orc.specs.Laws.{SameExecutions, IdentitiesKeepExecutions, SimplificationKeepsExecutions, LapsingKeepsExecutions, TicketsAreUnseen}
use Rattle.orc.proofs.Substitution.{free_substitute, substitute_below_absent}
use Rattle.orc.proofs.Simplifying.{by_parallel, by_sequential, by_pruning}
use Rattle.orc.proofs.Leaves.{publishes}
use Rattle.orc.proofs.Keeping.{step_frees_none}

-- Alike from tick u on are the two sides of each identity of simplification; a silent pending call that no window reaches
-- any more, and stop; two pending calls that differ in their tickets; and what is built in the same way from parts alike.
data Like (W : World) (u : ℕ) : Expression → Expression → Type 0 where
  same : {e : Expression} → Like W u e e
  back : {e e' : Expression} → Like W u e e' → Like W u e' e
  chain : {e e' e'' : Expression} → Like W u e e' → Like W u e' e'' → Like W u e e''
  parallels : {f f' g g' : Expression} → Like W u f f' → Like W u g g' → Like W u (parallel f g) (parallel f' g')
  sequentials : {x : ℕ} {f f' g g' : Expression} → Like W u f f' → Like W u g g' → Like W u (sequential x f g) (sequential x f' g')
  prunings : {x : ℕ} {f f' g g' : Expression} → Like W u f f' → Like W u g g' → Like W u (pruning x f g) (pruning x f' g')
  stop_left : {g : Expression} → Like W u (parallel stop g) g
  stop_right : {f : Expression} → Like W u (parallel f stop) f
  stop_first : {x : ℕ} {g : Expression} → Like W u (sequential x stop g) stop
  stop_pruned : {x : ℕ} {f : Expression} → AllByRecursion ClosedButFormal W.definitions → free x f ≡ false → Like W u (pruning x f stop) f
  lapses_silently : {k s v c : ℕ} → (handle W.meaning s v).silent ≡ true → within_reach (handle W.meaning s v) c u ≡ false → Like W u (pending k s v c) stop
  renumbered : {k k' s v c : ℕ} → Like W u (pending k s v c) (pending k' s v c)

below_like : {W : World} {u : ℕ} {e e₁ e' e₁' : Expression} (b : Bool) → Like W u e e' → Like W u e₁ e₁' → Like W u (cond b e e₁) (cond b e' e₁')
below_like true p q = p
below_like false p q = q

-- alike stays alike when a value is put in
like_substitute : {W : World} {u : ℕ} {e e' : Expression} (v y : ℕ) → Like W u e e' → Like W u (substitute v y e) (substitute v y e')
unfolding substitute
like_substitute v y same = same
like_substitute v y (back p) = back (like_substitute v y p)
like_substitute v y (chain p q) = chain (like_substitute v y p) (like_substitute v y q)
like_substitute v y (parallels p q) = parallels (like_substitute v y p) (like_substitute v y q)
like_substitute v y (sequentials {x} p q) = sequentials (like_substitute v y p) (below_like (eqb y x) q (like_substitute v y q))
like_substitute v y (prunings {x} p q) = prunings (below_like (eqb y x) p (like_substitute v y p)) (like_substitute v y q)
like_substitute v y stop_left = stop_left
like_substitute v y stop_right = stop_right
like_substitute v y stop_first = stop_first
like_substitute v y (stop_pruned {x} {f} c n) =
    let r = free_substitute v y x f in
    let still : free x (substitute v y f) ≡ false = grind arith in
    rw (substitute_below_absent v y x f n) (stop_pruned c still)
like_substitute v y (lapses_silently a b) = lapses_silently a b
like_substitute v y renumbered = renumbered

-- time passes only forward
pass_forward : (W : World) (t n : ℕ) (e : Expression) → Pass W t n e → t ≤ n
pass_forward W t n stop p = p
pass_forward W t n (site_call s (value v)) p = omega arith
pass_forward W t n (site_call s (variable x)) p = p
pass_forward W t n (definition_call i (value v)) p = omega arith
pass_forward W t n (definition_call i (variable x)) p = p
pass_forward W t n (parallel f g) p = pass_forward W t n f p.0
pass_forward W t n (sequential x f g) p = pass_forward W t n f p
pass_forward W t n (pruning x f g) p = pass_forward W t n f p.0
pass_forward W t n (pending k s v c) p = p.0

-- a step of e' with act a, to something like e₁
record Answer (W : World) (u t : ℕ) (e' : Expression) (a : Act) (e₁ : Expression) : Type 0 where
  ticket : ℕ
  leaf : Leaf
  gone : List Pending
  result : Expression
  step : Step W t ticket e' leaf a gone result
  like : Like W u e₁ result

answer : {W : World} {u t k : ℕ} {e' e₁ e₂ : Expression} {l : Leaf} {a : Act} {gone : List Pending} → Step W t k e' l a gone e₂ → Like W u e₁ e₂ → Answer W u t e' a e₁
answer s p = record { ticket = _; leaf = _; gone = _; result = _; step = s; like = p }

-- whatever e does from tick u on, e' does too
record Mirrors (W : World) (u : ℕ) (e e' : Expression) : Type 0 where
  passes : (t n : ℕ) → u ≤ t → Pass W t n e → Pass W t n e'
  steps : {t k : ℕ} {l : Leaf} {a : Act} {gone : List Pending} {e₁ : Expression} → u ≤ t → Step W t k e l a gone e₁ → Answer W u t e' a e₁

-- an expression mirrors itself
mirrors_same : {W : World} {u : ℕ} {e : Expression} → Mirrors W u e e
mirrors_same = record { passes = λ t n h p. p; steps = λ h s. answer s same }

mirrors_chain : {W : World} {u : ℕ} {e e' e'' : Expression} → Mirrors W u e e' → Mirrors W u e' e'' → Mirrors W u e e''
mirrors_chain {W} {u} {e} {e'} {e''} m m' = record { passes = λ t n h p. m'.passes t n h (m.passes t n h p); steps = λ h s. joined h (m.steps h s) }
  where
    joined : {t : ℕ} {a : Act} {e₁ : Expression} → u ≤ t → Answer W u t e' a e₁ → Answer W u t e'' a e₁
    joined h r = let r' = m'.steps h r.step in answer r'.step (chain r.like r'.like)

-- each combinator mirrors, if its parts do
mirrors_parallel : {W : World} {u : ℕ} {f f' g g' : Expression} → Like W u f f' → Like W u g g' → Mirrors W u f f' → Mirrors W u g g' → Mirrors W u (parallel f g) (parallel f' g')
mirrors_parallel {W} {u} {f} {f'} {g} {g'} p q m m' = record { passes = λ t n h r. (m.passes t n h r.0, m'.passes t n h r.1); steps = λ h s. of h s }
  where
    of : {t k : ℕ} {l : Leaf} {a : Act} {gone : List Pending} {e₁ : Expression} → u ≤ t → Step W t k (parallel f g) l a gone e₁ → Answer W u t (parallel f' g') a e₁
    of h (parallel_left s) = let r = m.steps h s in answer (parallel_left r.step) (parallels r.like q)
    of h (parallel_right _ s) = let r = m'.steps h s in answer (parallel_right refl r.step) (parallels p r.like)

mirrors_sequential : {W : World} {u x : ℕ} {f f' g g' : Expression} → Like W u g g' → Mirrors W u f f' → Mirrors W u (sequential x f g) (sequential x f' g')
mirrors_sequential {W} {u} {x} {f} {f'} {g} {g'} q m = record { passes = λ t n h r. m.passes t n h r; steps = λ h s. of h s }
  where
    of : {t k : ℕ} {l : Leaf} {a : Act} {gone : List Pending} {e₁ : Expression} → u ≤ t → Step W t k (sequential x f g) l a gone e₁ → Answer W u t (sequential x f' g') a e₁
    of h (sequential_keeps keeps s) = let r = m.steps h s in answer (sequential_keeps keeps r.step) (sequentials r.like q)
    of h (sequential_spawns {w = w} s) = let r = m.steps h s in answer (sequential_spawns r.step) (parallels (sequentials r.like q) (like_substitute w x q))

mirrors_pruning : {W : World} {u x : ℕ} {f f' g g' : Expression} → Like W u f f' → Like W u g g' → Mirrors W u f f' → Mirrors W u g g' → Mirrors W u (pruning x f g) (pruning x f' g')
mirrors_pruning {W} {u} {x} {f} {f'} {g} {g'} p q m m' = record { passes = λ t n h r. (m.passes t n h r.0, m'.passes t n h r.1); steps = λ h s. of h s }
  where
    of : {t k : ℕ} {l : Leaf} {a : Act} {gone : List Pending} {e₁ : Expression} → u ≤ t → Step W t k (pruning x f g) l a gone e₁ → Answer W u t (pruning x f' g') a e₁
    of h (pruning_left s) = let r = m.steps h s in answer (pruning_left r.step) (prunings r.like q)
    of h (pruning_keeps _ keeps s) = let r = m'.steps h s in answer (pruning_keeps refl keeps r.step) (prunings p r.like)
    of h (pruning_binds {w = w} _ s) = let r = m'.steps h s in answer (pruning_binds refl r.step) (like_substitute w x p)

-- stop makes no step
stop_rests : {W : World} {t k : ℕ} {l : Leaf} {a : Act} {gone : List Pending} {e₁ : Expression} {X : Type 0} → Step W t k stop l a gone e₁ → X
stop_rests s = elim s [ ]

-- a window that does not reach tick u reaches no later tick, and admits no reply there
past_reach : (c u t w : ℕ) (ws : List Window) → u ≤ t → some (reaches c u) ws ≡ false → some (admits c t w) ws ≡ false
past_reach c u t w [] h n = refl
past_reach c u t w (x ∷ xs) h n = let r = past_reach c u t w xs h in grind (arith, nat_tests)

-- The identities, each in both directions.
module _ {W : World} {u : ℕ} where
  loses_stop_left : {g : Expression} → Mirrors W u (parallel stop g) g
  loses_stop_left {g} = record { passes = λ t n h r. r.1; steps = λ h s. of s }
    where
      of : {t k : ℕ} {l : Leaf} {a : Act} {gone : List Pending} {e₁ : Expression} → Step W t k (parallel stop g) l a gone e₁ → Answer W u t g a e₁
      of (parallel_left s) = stop_rests s
      of (parallel_right _ s) = answer s stop_left

  gains_stop_left : {g : Expression} → Mirrors W u g (parallel stop g)
  gains_stop_left {g} = record { passes = λ t n h r. (pass_forward W t n g r, r); steps = λ h s. answer (parallel_right refl s) (back stop_left) }

  loses_stop_right : {f : Expression} → Mirrors W u (parallel f stop) f
  loses_stop_right {f} = record { passes = λ t n h r. r.0; steps = λ h s. of s }
    where
      of : {t k : ℕ} {l : Leaf} {a : Act} {gone : List Pending} {e₁ : Expression} → Step W t k (parallel f stop) l a gone e₁ → Answer W u t f a e₁
      of (parallel_left s) = answer s stop_right
      of (parallel_right _ s) = stop_rests s

  gains_stop_right : {f : Expression} → Mirrors W u f (parallel f stop)
  gains_stop_right {f} = record { passes = λ t n h r. (r, pass_forward W t n f r); steps = λ h s. answer (parallel_left s) (back stop_right) }

  loses_sequential : {x : ℕ} {g : Expression} → Mirrors W u (sequential x stop g) stop
  loses_sequential {x} {g} = record { passes = λ t n h r. r; steps = λ h s. of s }
    where
      of : {t k : ℕ} {l : Leaf} {a : Act} {gone : List Pending} {e₁ : Expression} → Step W t k (sequential x stop g) l a gone e₁ → Answer W u t stop a e₁
      of (sequential_keeps _ s) = stop_rests s
      of (sequential_spawns s) = stop_rests s

  gains_sequential : {x : ℕ} {g : Expression} → Mirrors W u stop (sequential x stop g)
  gains_sequential = record { passes = λ t n h r. r; steps = λ h s. stop_rests s }

  loses_pruning : {x : ℕ} {f : Expression} → AllByRecursion ClosedButFormal W.definitions → free x f ≡ false → Mirrors W u (pruning x f stop) f
  loses_pruning {x} {f} c n = record { passes = λ t n h r. r.0; steps = λ h s. of s }
    where
      of : {t k : ℕ} {l : Leaf} {a : Act} {gone : List Pending} {e₁ : Expression} → Step W t k (pruning x f stop) l a gone e₁ → Answer W u t f a e₁
      of (pruning_left s) = answer s (stop_pruned c (step_frees_none c x s n))
      of (pruning_keeps _ _ s) = stop_rests s
      of (pruning_binds _ s) = stop_rests s

  gains_pruning : {x : ℕ} {f : Expression} → AllByRecursion ClosedButFormal W.definitions → free x f ≡ false → Mirrors W u f (pruning x f stop)
  gains_pruning {x} {f} c a = record { passes = λ t n h r. (r, pass_forward W t n f r); steps = λ h s. answer (pruning_left s) (back (stop_pruned c (step_frees_none c x s a))) }

  loses_call : {k s v c : ℕ} → within_reach (handle W.meaning s v) c u ≡ false → Mirrors W u (pending k s v c) stop
  unfolding within_reach can_reply
  loses_call {k} {s} {v} {c} n = record { passes = λ t n h r. r.0; steps = λ h s. of h s }
    where
      of : {t j : ℕ} {l : Leaf} {a : Act} {gone : List Pending} {e₁ : Expression} → u ≤ t → Step W t j (pending k s v c) l a gone e₁ → Answer W u t stop a e₁
      of {t} h (replies {w = w} r) = absurd (both_ways _ (past_reach c u t w (handle W.meaning s v).windows h n) r)

  gains_call : {k s v c : ℕ} → (handle W.meaning s v).silent ≡ true → Mirrors W u stop (pending k s v c)
  unfolding can_stand
  gains_call {k} {s} {v} {c} a = record { passes = λ t n h r. (r, or_left _ _ a); steps = λ h s. stop_rests s }

  mirrors_renumbered : {k k' s v c : ℕ} → Mirrors W u (pending k s v c) (pending k' s v c)
  mirrors_renumbered {k} {k'} {s} {v} {c} = record { passes = λ t n h r. r; steps = λ h s. of s }
    where
      of : {t j : ℕ} {l : Leaf} {a : Act} {gone : List Pending} {e₁ : Expression} → Step W t j (pending k s v c) l a gone e₁ → Answer W u t (pending k' s v c) a e₁
      of {t} {j} (replies r) = answer {k = j} (replies r) same

-- What is alike mirrors each other.
mirrors : {W : World} {u : ℕ} {e e' : Expression} → Like W u e e' → Mirrors W u e e' × Mirrors W u e' e
mirrors same = (mirrors_same, mirrors_same)
mirrors (back p) = let m = mirrors p in (m.1, m.0)
mirrors (chain p q) = let m = mirrors p in let m' = mirrors q in (mirrors_chain m.0 m'.0, mirrors_chain m'.1 m.1)
mirrors (parallels p q) = let m = mirrors p in let m' = mirrors q in (mirrors_parallel p q m.0 m'.0, mirrors_parallel (back p) (back q) m.1 m'.1)
mirrors (sequentials p q) = let m = mirrors p in (mirrors_sequential q m.0, mirrors_sequential (back q) m.1)
mirrors (prunings p q) = let m = mirrors p in let m' = mirrors q in (mirrors_pruning p q m.0 m'.0, mirrors_pruning (back p) (back q) m.1 m'.1)
mirrors stop_left = (loses_stop_left, gains_stop_left)
mirrors stop_right = (loses_stop_right, gains_stop_right)
mirrors stop_first = (loses_sequential, gains_sequential)
mirrors (stop_pruned c n) = (loses_pruning c n, gains_pruning c n)
mirrors (lapses_silently a n) = (loses_call n, gains_call a)
mirrors renumbered = (mirrors_renumbered, mirrors_renumbered)

-- an event of e is an event of what is like e
like_moves : {W : World} {u : ℕ} {e e' e₁ : Expression} {m : Event} → Like W u e e' → u ≤ tick m → Moves W e m e₁ → (e₂ : Expression) × Moves W e' m e₂ × Like W u e₁ e₂
like_moves p h (acts s) = let r = (mirrors p).0.steps h s in (r.result, acts r.step, r.like)
like_moves {e' = e'} p h (takes_in {x = x} {v = v}) = (substitute v x e', takes_in, like_substitute v x p)

-- What is alike from u on has the same executions from u on.
like_executes : {W : World} {u : ℕ} (ms : List Event) (t n : ℕ) {e e' : Expression} → Like W u e e' → u ≤ t → Execution W t e ms n → Execution W t e' ms n
like_executes [] t n p h x = (mirrors p).0.passes t n h x
like_executes {W} {u} (m ∷ ms) t n {e} p h x =
    let later : u ≤ tick m = omega (arith, pass_forward W t (tick m) e x.1.passes) in
    let r = like_moves p later x.1.moves in
    (r.0, record { passes = (mirrors p).0.passes t (tick m) h x.1.passes; moves = r.1 }, like_executes ms (tick m) n r.2 later x.2)

-- An expression is like its simplified form.
like_simplified : {W : World} {u : ℕ} → AllByRecursion ClosedButFormal W.definitions → (e : Expression) → Like W u e (simplified e)
unfolding simplified
like_simplified c stop = same
like_simplified c (site_call s p) = same
like_simplified c (definition_call i p) = same
like_simplified {W} {u} c (parallel f g) =
    let p = like_simplified {u = u} c f in
    let q = like_simplified {u = u} c g in
    by_parallel (Like W u (parallel f g)) (simplified f) (simplified g) (λ h. chain (parallels (subst (Like W u f) h p) q) stop_left) (λ h. chain (parallels p (subst (Like W u g) h q)) stop_right) (λ _. parallels p q)
like_simplified {W} {u} c (sequential x f g) =
    let p = like_simplified {u = u} c f in
    let q = like_simplified {u = u} c g in
    by_sequential (Like W u (sequential x f g)) x (simplified f) (simplified g) (λ h. chain (sequentials (subst (Like W u f) h p) q) stop_first) (λ _. sequentials p q)
like_simplified {W} {u} c (pruning x f g) =
    let p = like_simplified {u = u} c f in
    let q = like_simplified {u = u} c g in
    by_pruning (Like W u (pruning x f g)) x (simplified f) (simplified g) (λ h n. chain (prunings p (subst (Like W u g) h q)) (stop_pruned c n)) (λ _. prunings p q)
like_simplified c (pending k s v c') = same

all_parts : {X : Type 0} (P : X → Type 0) (xs ys : List X) → AllByRecursion P (xs ++ ys) → AllByRecursion P xs × AllByRecursion P ys
all_parts P [] ys a = (tt, a)
all_parts P (x ∷ xs) ys a = let h = all_parts P xs ys a.1 in ((a.0, h.0), h.1)

-- An expression is like its lapsed form, if each pending call can stand.
like_lapsed : {W : World} {u : ℕ} (e : Expression) → AllCanStand W.meaning u e → Like W u e (lapsed W.meaning u e)
unfolding lapsed pending_calls can_stand
like_lapsed stop a = same
like_lapsed (site_call s p) a = same
like_lapsed (definition_call i p) a = same
like_lapsed {W} {u} (parallel f g) a = let h = all_parts _ (pending_calls f) (pending_calls g) a in parallels (like_lapsed f h.0) (like_lapsed g h.1)
like_lapsed (sequential x f g) a = let h = all_parts _ (pending_calls f) (pending_calls g) a in sequentials (like_lapsed f h.0) (like_lapsed g h.1)
like_lapsed (pruning x f g) a = let h = all_parts _ (pending_calls f) (pending_calls g) a in prunings (like_lapsed f h.0) (like_lapsed g h.1)
like_lapsed {W} {u} (pending k s v c) a = cond_both (within_reach (handle W.meaning s v) c u) (pending k s v c) stop (Like W u (pending k s v c)) (λ _. same) (λ n. lapses_silently (grind arith) n)

-- time passes only to where each pending call can stand
pub pass_stands : (W : World) (t n : ℕ) (e : Expression) → RightsUnbegun e → Pass W t n e → AllCanStand W.meaning n e
unfolding pending_calls RightsUnbegun
pass_stands W t n stop u p = tt
pass_stands W t n (site_call s q) u p = tt
pass_stands W t n (definition_call i q) u p = tt
pass_stands W t n (parallel f g) u p = All-append _ (pending_calls f) (pending_calls g) (pass_stands W t n f u.0 p.0) (pass_stands W t n g u.1 p.1)
pass_stands W t n (sequential x f g) u p = All-append _ (pending_calls f) (pending_calls g) (pass_stands W t n f u.0 p) (rw u.1 tt)
pass_stands W t n (pruning x f g) u p = All-append _ (pending_calls f) (pending_calls g) (pass_stands W t n f u.0 p.0) (pass_stands W t n g u.1 p.1)
pass_stands W t n (pending k s v c) u p = (p.1, tt)

-- A step can be made with another ticket, and its result is like the other's from any tick on.
step_renumbered : {W : World} {t k : ℕ} {e e₁ : Expression} {l : Leaf} {a : Act} {gone : List Pending} (u j : ℕ) → Step W t k e l a gone e₁ → (e₂ : Expression) × Step W t j e l a gone e₂ × Like W u e₁ e₂
step_renumbered u j calls = (_, calls, renumbered)
step_renumbered u j (unfolds d h) = (_, unfolds d h, same)
step_renumbered u j (replies r) = (_, replies r, same)
step_renumbered u j (parallel_left s) = let h = step_renumbered u j s in (_, parallel_left h.1, parallels h.2 same)
step_renumbered u j (parallel_right b s) = let h = step_renumbered u j s in (_, parallel_right b h.1, parallels same h.2)
step_renumbered u j (sequential_keeps c s) = let h = step_renumbered u j s in (_, sequential_keeps c h.1, sequentials h.2 same)
step_renumbered u j (sequential_spawns s) = let h = step_renumbered u j s in (_, sequential_spawns h.1, parallels (sequentials h.2 same) same)
step_renumbered u j (pruning_left s) = let h = step_renumbered u j s in (_, pruning_left h.1, prunings h.2 same)
step_renumbered u j (pruning_keeps b c s) = let h = step_renumbered u j s in (_, pruning_keeps b c h.1, prunings same h.2)
step_renumbered u j (pruning_binds b s) = (_, pruning_binds b (publishes j s).1, same)

-- what is alike from u on has the same executions from u on
same_executions : (W : World) (u t : ℕ) (e e' : Expression) → u ≤ t → Like W u e e' → SameExecutions W t e e'
same_executions W u t e e' h p ms n = (like_executes ms t n p h, like_executes ms t n (back p) h)

pub identities_keep_executions : IdentitiesKeepExecutions
identities_keep_executions =
    record {
      stop_on_the_left = λ W t g. same_executions W t t (parallel stop g) g (le_refl t) stop_left;
      stop_on_the_right = λ W t f. same_executions W t t (parallel f stop) f (le_refl t) stop_right;
      nothing_published = λ W t x g. same_executions W t t (sequential x stop g) stop (le_refl t) stop_first;
      nothing_pruned = λ W c t x f n. same_executions W t t (pruning x f stop) f (le_refl t) (stop_pruned c n);
    }

pub simplification_keeps_executions : SimplificationKeepsExecutions
simplification_keeps_executions W c t e = same_executions W t t e (simplified e) (le_refl t) (like_simplified c e)

pub lapsing_keeps_executions : LapsingKeepsExecutions
lapsing_keeps_executions W u t e h a = same_executions W u t e (lapsed W.meaning u e) h (like_lapsed e a)

pub tickets_are_unseen : TicketsAreUnseen
tickets_are_unseen W t k j e e₁ l a gone s = let h = step_renumbered 0 j s in (h.0, h.1, λ u. same_executions W 0 u e₁ h.0 (omega arith) h.2)
