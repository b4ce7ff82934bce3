-- Transitions by their leaf: which leaves can move, to what, and what becomes of the pending calls.
use Rattle.std.proofs.Common.{◌≡◌, ℕ, zero, suc, ◌+◌, ◌-◌, ◌<◌, ◌≤◌, Bool, true, cond, eqb, List, [], ◌∷◌, ◌++◌, length, get_or, Some, count_by, sym, refl, ap, ◌∙◌, subst, ap₂, inl, inr, arith}
use Rattle.std.specs.List.{ContainsAt as Has, AllByRecursion}
use Rattle.std.proofs.lemmas.Bool.{eq-eqb, cases_lt}
use Rattle.std.proofs.lemmas.List.Sums.{sum_by-append, get_or-le-sum_by}
use Rattle.std.proofs.ByRecursion.{has_append_left, has_append_right, has_push, All-append, All-weaker, all-has}
use Rattle.orc.specs.Meaning.{can_reply}
use Rattle.orc.specs.Expressions.{value, variable, Expression, stop, site_call, definition_call, parallel, sequential, pruning, pending, World, entry}
use Rattle.orc.specs.Variables.{substitute}
use Rattle.orc.specs.Calls.{Pending, pending_calls, handle_at, due_count, RightsUnbegun}
use Rattle.orc.specs.Steps.{Act, called, inner, out, Keeps, keeps_call, keeps_inner, Leaf, due, reply, behind, Step, calls, unfolds, replies, parallel_left, parallel_right, sequential_keeps, sequential_spawns, pruning_left, pruning_keeps, pruning_binds}
use Rattle.orc.specs.Sound.{NumbersWithin, standing, DistinctTickets, Sound}
use Rattle.orc.specs.Laws.{CanMove, Determined, Answered, none_answered, one_answered}

-- A publication withdraws nothing, and has no use for a ticket.
pub publishes : {W : World} {t k : ℕ} {e e' : Expression} {l : Leaf} {w : ℕ} {gone : List Pending} (j : ℕ) → Step W t k e l (out w) gone e' → (gone ≡ []) × Step W t j e l (out w) gone e'
publishes j (replies r) = (refl, replies r)
publishes j (parallel_left s) = let h = publishes j s in (h.0, parallel_left h.1)
publishes j (parallel_right q s) = let h = publishes j s in (h.0, parallel_right q h.1)
publishes j (sequential_keeps q s) = elim q [ ]
publishes j (pruning_left s) = let h = publishes j s in (h.0, pruning_left h.1)
publishes j (pruning_keeps p q s) = elim q [ ]

-- The answered call stands on in a larger expression.
pub answered_left : {W : World} {t : ℕ} {f e : Expression} {l : Leaf} {ps : List Pending} (n : ℕ) (qs : List Pending) → due_count e ≡ due_count f + n → pending_calls e ≡ pending_calls f ++ qs → Answered W t f l ps → Answered W t e l ps
answered_left n qs d q (none_answered h) = none_answered (omega arith)
answered_left {f = f} {e = e} n qs d q (one_answered {p} h r) = one_answered (subst (λ xs. Has xs p) (sym q) (has_append_left (pending_calls f) qs p h)) r

pub answered_right : {W : World} {t : ℕ} {g e : Expression} {l l' : Leaf} {ps : List Pending} (n : ℕ) (qs : List Pending) → l' ≡ behind n l → due_count e ≡ n + due_count g → pending_calls e ≡ qs ++ pending_calls g → Answered W t g l ps → Answered W t e l' ps
answered_right {W} {t} {g} {e} n qs b d q (none_answered h) = subst (λ m. Answered W t e m []) (sym b) (none_answered (omega arith))
answered_right {W} {t} {g} {e} n qs b d q (one_answered {p} h r) = subst (λ m. Answered W t e m (p ∷ [])) (sym b) (one_answered (subst (λ xs. Has xs p) (sym q) (has_append_right qs (pending_calls g) p h)) r)

-- The leaf of a step stands in the expression.
unfoldable pub stands : {W : World} {t k : ℕ} {e e' : Expression} {l : Leaf} {a : Act} {gone : List Pending} → Step W t k e l a gone e' → (ps : List Pending) × Answered W t e l ps
unfolding due_count pending_calls
stands calls = ([], none_answered (omega arith))
stands (unfolds d h) = ([], none_answered (omega arith))
stands (replies {j} {s} {v} {c} r) = let p : Pending = record { ticket = j; site = s; argument = v; since = c } in (p ∷ [], one_answered {p = p} (has_push [] p) r)
stands (parallel_left {f} {g} s) = let h = stands s in (h.0, answered_left {f = f} {e = parallel f g} (due_count g) (pending_calls g) refl refl h.1)
stands (parallel_right {f} {g} b s) = let h = stands s in (h.0, answered_right {g = g} {e = parallel f g} (due_count f) (pending_calls f) b refl refl h.1)
stands (sequential_keeps {x} {f} {g} q s) = let h = stands s in (h.0, answered_left {f = f} {e = sequential x f g} 0 (pending_calls g) (omega arith) refl h.1)
stands (sequential_spawns {x} {w} {f} {g} s) = let h = stands s in (h.0, answered_left {f = f} {e = sequential x f g} 0 (pending_calls g) (omega arith) refl h.1)
stands (pruning_left {x} {f} {g} s) = let h = stands s in (h.0, answered_left {f = f} {e = pruning x f g} (due_count g) (pending_calls g) refl refl h.1)
stands (pruning_keeps {x} {f} {g} b q s) = let h = stands s in (h.0, answered_right {g = g} {e = pruning x f g} (due_count f) (pending_calls f) b refl refl h.1)
stands (pruning_binds {x} {w} {f} {g} b s) = let h = stands s in (h.0, answered_right {g = g} {e = pruning x f g} (due_count f) (pending_calls f) b refl refl h.1)

-- counts of two lists joined, and of what stands in a list
pub count_parts : {X : Type 0} (f : X → Bool) (xs ys : List X) → count_by f (xs ++ ys) ≡ count_by f xs + count_by f ys
count_parts f xs ys = sum_by-append (λ x. cond (f x) 1 0) xs ys

count_has : {X : Type 0} (f : X → Bool) (xs : List X) (x : X) → Has xs x → f x ≡ true → 1 ≤ count_by f xs
count_has f xs x h y =
    let below = get_or-le-sum_by (λ x. cond (f x) 1 0) xs h.0 x h.1 in
    let one : ◌≡◌ {A = ℕ} (cond (f (get_or xs h.0 x)) 1 0) 1 = cc (h.2 x) in
    omega arith

-- No leaf stands in both parts of an expression with distinct tickets.
apart : {W : World} {t : ℕ} {f g : Expression} {l m : Leaf} {ps qs : List Pending} → ((k : ℕ) → standing k f + standing k g ≤ 1) → Answered W t f l ps → Answered W t g m qs → l ≡ behind (due_count f) m → ⊥
apart {f = f} d (none_answered {n} h) (none_answered {n = n'} h') q = let z : n ≡ due_count f + n' = cc in omega arith
apart d (none_answered h) (one_answered h' r') q = let z : ◌≡◌ {A = ℕ} 0 1 = cc in omega arith
apart d (one_answered h r) (none_answered h') q = let z : ◌≡◌ {A = ℕ} 0 1 = cc in omega arith
apart {f = f} {g = g} d (one_answered {p} h r) (one_answered {p = p'} h' r') q =
    let z : p.ticket ≡ p'.ticket = cc in
    let one = count_has (λ p''. eqb p.ticket p''.ticket) (pending_calls f) p h (eq-eqb _ _ refl) in
    let two = count_has (λ p''. eqb p.ticket p''.ticket) (pending_calls g) p' h' (eq-eqb _ _ z) in
    omega (arith, d p.ticket)

-- leaves that are one behind the same number of due calls are one
behind_same : (m : ℕ) (l l' : Leaf) {n n' : Leaf} → n ≡ behind m l → n' ≡ behind m l' → n ≡ n' → l ≡ l'
behind_same m (due n) (due n') b b' q = let z : m + n ≡ m + n' = cc in ap due (omega arith)
behind_same m (due n) (reply j w) b b' q = cc
behind_same m (reply j w) (due n) b b' q = cc
behind_same m (reply j w) (reply j' w') b b' q = cc

-- what keeps quiet publishes nothing
keeps_no_out : {a : Act} {w : ℕ} {X : Type 0} → Keeps a → a ≡ out w → X
keeps_no_out keeps_call q = let z : ◌≡◌ {A = ℕ} 0 1 = cc in absurd (omega arith)
keeps_no_out keeps_inner q = let z : ◌≡◌ {A = ℕ} 0 1 = cc in absurd (omega arith)

-- tickets that are distinct in an expression of two parts are so in each part, and none stands in both
distinct_parts : (f g : Expression) → ((k : ℕ) → count_by (λ p. eqb k p.ticket) (pending_calls f ++ pending_calls g) ≤ 1) → DistinctTickets f × DistinctTickets g × ((k : ℕ) → standing k f + standing k g ≤ 1)
distinct_parts f g d = (λ k. let h = both k in omega arith, λ k. let h = both k in omega arith, both)
  where
    both : (k : ℕ) → standing k f + standing k g ≤ 1
    both k = rw count_parts at (d k)

twice : {W : World} {t k : ℕ} {f g f' g' : Expression} {l m n : Leaf} {a b : Act} {gone away : List Pending} {X : Type 0} → ((k : ℕ) → count_by (λ p. eqb k p.ticket) (pending_calls f ++ pending_calls g) ≤ 1) → Step W t k f l a gone f' → Step W t k g m b away g' → l ≡ n → n ≡ behind (due_count f) m → X
twice {f = f} {g = g} d s s' p q = absurd (apart {f = f} {g = g} (distinct_parts f g d).2 (stands s).1 (stands s').1 (p ∙ q))

-- By its leaf a step is determined, where tickets are distinct.
one_outcome : {W : World} {t k : ℕ} {e e₁ e₂ : Expression} {l m : Leaf} {a b : Act} {gone away : List Pending} → DistinctTickets e → Step W t k e l a gone e₁ → Step W t k e m b away e₂ → l ≡ m → (a ≡ b) × (gone ≡ away) × (e₁ ≡ e₂)
unfolding pending_calls
one_outcome d calls calls q = (refl, refl, refl)
one_outcome d (unfolds {v = v} c h) (unfolds c' h') q = let z : c ≡ c' = cc in (refl, refl, ap (λ d. substitute v d.formal d.body) z)
one_outcome d (replies {w = w} r) (replies {w = w'} r') q = let z : w ≡ w' = cc in (ap out z, refl, refl)
one_outcome d (parallel_left {f} {g} s) (parallel_left s') q = let h = one_outcome (distinct_parts f g d).0 s s' q in (h.0, h.1, ap (λ f'. parallel f' g) h.2)
one_outcome d (parallel_left s) (parallel_right b s') q = twice d s s' q b
one_outcome d (parallel_right b s) (parallel_left s') q = twice d s' s (sym q) b
one_outcome d (parallel_right {f} {g} b s) (parallel_right b' s') q = let h = one_outcome (distinct_parts f g d).1 s s' (behind_same _ _ _ b b' q) in (h.0, h.1, ap (parallel f) h.2)
one_outcome d (sequential_keeps {x} {f} {g} _ s) (sequential_keeps _ s') q = let h = one_outcome (distinct_parts f g d).0 s s' q in (h.0, h.1, ap (λ f'. sequential x f' g) h.2)
one_outcome d (sequential_keeps {x} {f} {g} c s) (sequential_spawns s') q = keeps_no_out c (one_outcome (distinct_parts f g d).0 s s' q).0
one_outcome d (sequential_spawns {x} {w} {f} {g} s) (sequential_keeps c s') q = keeps_no_out c (sym (one_outcome (distinct_parts f g d).0 s s' q).0)
one_outcome d (sequential_spawns {x} {w} {f} {g} s) (sequential_spawns {w = w'} s') q =
    let h = one_outcome (distinct_parts f g d).0 s s' q in
    let z : w ≡ w' = cc h.0 in
    (refl, h.1, ap₂ (λ f' w. parallel (sequential x f' g) (substitute w x g)) h.2 z)
one_outcome d (pruning_left {x} {f} {g} s) (pruning_left s') q = let h = one_outcome (distinct_parts f g d).0 s s' q in (h.0, h.1, ap (λ f'. pruning x f' g) h.2)
one_outcome d (pruning_left s) (pruning_keeps b _ s') q = twice d s s' q b
one_outcome d (pruning_left s) (pruning_binds b s') q = twice d s s' q b
one_outcome d (pruning_keeps b _ s) (pruning_left s') q = twice d s' s (sym q) b
one_outcome d (pruning_keeps {x} {f} {g} b _ s) (pruning_keeps b' _ s') q = let h = one_outcome (distinct_parts f g d).1 s s' (behind_same _ _ _ b b' q) in (h.0, h.1, ap (pruning x f) h.2)
one_outcome d (pruning_keeps {x} {f} {g} b c s) (pruning_binds b' s') q = keeps_no_out c (one_outcome (distinct_parts f g d).1 s s' (behind_same _ _ _ b b' q)).0
one_outcome d (pruning_binds b s) (pruning_left s') q = twice d s' s (sym q) b
one_outcome d (pruning_binds {x} {w} {f} {g} b s) (pruning_keeps b' c s') q = keeps_no_out c (sym (one_outcome (distinct_parts f g d).1 s s' (behind_same _ _ _ b b' q)).0)
one_outcome d (pruning_binds {x} {w} {f} {g} b s) (pruning_binds {w = w'} b' s') q =
    let h = one_outcome (distinct_parts f g d).1 s s' (behind_same _ _ _ b b' q) in
    let z : w ≡ w' = cc h.0 in
    (refl, ap pending_calls h.2, ap (λ w. substitute w x f) z)

-- A leaf that can move in a part can move in the whole.
module _ {W : World} {t k : ℕ} where
  in_parallel_left : {f : Expression} {l : Leaf} (g : Expression) → CanMove W t k f l → CanMove W t k (parallel f g) l
  in_parallel_left g c = record { act = _; gone = _; result = _; step = parallel_left c.step }

  in_parallel_right : {g : Expression} {l m : Leaf} (f : Expression) → m ≡ behind (due_count f) l → CanMove W t k g l → CanMove W t k (parallel f g) m
  in_parallel_right f b c = record { act = _; gone = _; result = _; step = parallel_right b c.step }

  in_sequential : {f : Expression} {l : Leaf} (x : ℕ) (g : Expression) → CanMove W t k f l → CanMove W t k (sequential x f g) l
  in_sequential {f} {l} x g c = by c.act c.step
    where
      by : {gone : List Pending} {f' : Expression} (a : Act) → Step W t k f l a gone f' → CanMove W t k (sequential x f g) l
      by (called s v) s' = record { act = _; gone = _; result = _; step = sequential_keeps keeps_call s' }
      by inner s' = record { act = _; gone = _; result = _; step = sequential_keeps keeps_inner s' }
      by (out w) s' = record { act = _; gone = _; result = _; step = sequential_spawns s' }

  in_pruning_left : {f : Expression} {l : Leaf} (x : ℕ) (g : Expression) → CanMove W t k f l → CanMove W t k (pruning x f g) l
  in_pruning_left x g c = record { act = _; gone = _; result = _; step = pruning_left c.step }

  in_pruning_right : {g : Expression} {l m : Leaf} (x : ℕ) (f : Expression) → m ≡ behind (due_count f) l → CanMove W t k g l → CanMove W t k (pruning x f g) m
  in_pruning_right {g} {l} {m} x f b c = by c.act c.step
    where
      by : {gone : List Pending} {g' : Expression} (a : Act) → Step W t k g l a gone g' → CanMove W t k (pruning x f g) m
      by (called s v) s' = record { act = _; gone = _; result = _; step = pruning_keeps b keeps_call s' }
      by inner s' = record { act = _; gone = _; result = _; step = pruning_keeps b keeps_inner s' }
      by (out w) s' = record { act = _; gone = _; result = _; step = pruning_binds b s' }

-- a number below the length leads to an entry
entry_found : {X : Type 0} (xs : List X) (i : ℕ) → i < length xs → (x : X) × (entry xs i ≡ Some x)
entry_found [] i h = absurd (omega arith)
entry_found (x ∷ xs) zero h = (x, refl)
entry_found (x ∷ xs) (suc i) h = entry_found xs i (omega arith)

-- each due call can move
due_moves : {W : World} {t k : ℕ} (e : Expression) → NumbersWithin W.definitions e → (n : ℕ) → n < due_count e → CanMove W t k e (due n)
unfolding due_count NumbersWithin
due_moves stop h n l = absurd (omega arith)
due_moves {W} {t} {k} (site_call s (value v)) h n l = subst (λ m. CanMove W t k (site_call s (value v)) (due m)) (omega arith) (record { act = _; gone = _; result = _; step = calls })
due_moves (site_call s (variable x)) h n l = absurd (omega arith)
due_moves {W} {t} {k} (definition_call i (value v)) h n l =
    let d = entry_found W.definitions i h in
    subst (λ m. CanMove W t k (definition_call i (value v)) (due m)) (omega arith) (record { act = _; gone = _; result = _; step = unfolds d.0 d.1 })
due_moves (definition_call i (variable x)) h n l = absurd (omega arith)
due_moves (parallel f g) h n l = elim (cases_lt n (due_count f)) [ inl a ↦ in_parallel_left g (due_moves f h.0 n a) | inr a ↦ in_parallel_right f (ap due (omega arith)) (due_moves g h.1 (n - due_count f) (omega arith)) ]
due_moves (sequential x f g) h n l = in_sequential x g (due_moves f h.0 n l)
due_moves (pruning x f g) h n l = elim (cases_lt n (due_count f)) [ inl a ↦ in_pruning_left x g (due_moves f h.0 n a) | inr a ↦ in_pruning_right x f (ap due (omega arith)) (due_moves g h.1 (n - due_count f) (omega arith)) ]
due_moves (pending j s v c) h n l = absurd (omega arith)

-- each reply that a window of a pending call admits can move
module _ (W : World) (t k : ℕ) where
  abbrev Replying : Expression → Pending → Type 0
  Replying e p = (w : ℕ) → can_reply (handle_at W.meaning p) p.since t w ≡ true → CanMove W t k e (reply p.ticket w)

  replying_part : {f : Expression} (e : Expression) → ((j w : ℕ) → CanMove W t k f (reply j w) → CanMove W t k e (reply j w)) → AllByRecursion (Replying f) (pending_calls f) → AllByRecursion (Replying e) (pending_calls f)
  replying_part {f} e up = All-weaker (Replying f) (Replying e) (λ p m w r. up p.ticket w (m w r)) (pending_calls f)

  reply_moves : (e : Expression) → RightsUnbegun e → AllByRecursion (Replying e) (pending_calls e)
  unfolding pending_calls RightsUnbegun
  reply_moves stop u = tt
  reply_moves (site_call s p) u = tt
  reply_moves (definition_call i p) u = tt
  reply_moves (parallel f g) u =
      All-append (Replying (parallel f g)) (pending_calls f) (pending_calls g) (replying_part (parallel f g) (λ j w. in_parallel_left g) (reply_moves f u.0)) (replying_part (parallel f g) (λ j w. in_parallel_right f refl) (reply_moves g u.1))
  reply_moves (sequential x f g) u =
      All-append (Replying (sequential x f g)) (pending_calls f) (pending_calls g) (replying_part (sequential x f g) (λ j w. in_sequential x g) (reply_moves f u.0)) (rw u.1 tt)
  reply_moves (pruning x f g) u =
      All-append (Replying (pruning x f g)) (pending_calls f) (pending_calls g) (replying_part (pruning x f g) (λ j w. in_pruning_left x g) (reply_moves f u.0)) (replying_part (pruning x f g) (λ j w. in_pruning_right x f refl) (reply_moves g u.1))
  reply_moves (pending j s v c) u = (λ w r. record { act = _; gone = _; result = _; step = replies r }, tt)

-- By its leaf a transition is determined.
pub determined : (W : World) (e : Expression) → Sound W e → Determined W e
determined W e d =
    record {
      one_outcome = λ s s'. one_outcome d.distinct s s' refl;
      due_calls_move = λ t k n. due_moves e d.numbers n;
      replies_move = λ t k w p h. all-has (Replying W t k e) (pending_calls e) p (reply_moves W t k e d.unbegun) h w;
    }
