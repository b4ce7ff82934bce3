-- When time can pass over an expression. Assumes nothing.
use Rattle.std.proofs.Common.{◌≡◌, ℕ, ◌+◌, ◌≤◌, ◌⊎◌, List, [], ◌∷◌, ◌++◌, refl, inl, inr, le_refl, arith}
use Rattle.std.specs.List.{AllByRecursion}
use Rattle.orc.specs.Expressions.{Parameter, value, variable, Expression, stop, site_call, definition_call, parallel, sequential, pruning, pending, World}
use Rattle.orc.specs.Calls.{ready, due_count, pending_calls}
use Rattle.orc.specs.Steps.{Waits, Pass}
use Rattle.orc.specs.Sound.{AllCanStand}

all_parts : {X : Type 0} (P : X → Type 0) (xs ys : List X) → AllByRecursion P (xs ++ ys) → AllByRecursion P xs × AllByRecursion P ys
all_parts P [] ys a = (tt, a)
all_parts P (x ∷ xs) ys a = let h = all_parts P xs ys a.1 in ((a.0, h.0), h.1)

waits_when : (t n : ℕ) (p : Parameter) → t ≤ n → (n ≡ t) ⊎ (ready p ≡ 0) → Waits t n p
waits_when t n (value v) h (inl q) = q
waits_when t n (value v) h (inr q) = absurd (omega arith)
waits_when t n (variable x) h q = h

-- no call is in the way in either part, if none is in the whole
clear : (n t a b : ℕ) → (n ≡ t) ⊎ (a + b ≡ 0) → ((n ≡ t) ⊎ (a ≡ 0)) × ((n ≡ t) ⊎ (b ≡ 0))
clear n t a b (inl q) = (inl q, inl q)
clear n t a b (inr q) = (inr (omega arith), inr (omega arith))

-- Time can pass where no call is due and each pending call can stand.
pub pass_when : (W : World) (t n : ℕ) (e : Expression) → t ≤ n → (n ≡ t) ⊎ (due_count e ≡ 0) → AllCanStand W.meaning n e → Pass W t n e
unfolding due_count pending_calls
pass_when W t n stop h q a = h
pass_when W t n (site_call s p) h q a = waits_when t n p h q
pass_when W t n (definition_call i p) h q a = waits_when t n p h q
pass_when W t n (parallel f g) h q a =
    let c = clear n t (due_count f) (due_count g) q in
    let b = all_parts _ (pending_calls f) (pending_calls g) a in
    (pass_when W t n f h c.0 b.0, pass_when W t n g h c.1 b.1)
pass_when W t n (sequential x f g) h q a = pass_when W t n f h q (all_parts _ (pending_calls f) (pending_calls g) a).0
pass_when W t n (pruning x f g) h q a =
    let c = clear n t (due_count f) (due_count g) q in
    let b = all_parts _ (pending_calls f) (pending_calls g) a in
    (pass_when W t n f h c.0 b.0, pass_when W t n g h c.1 b.1)
pass_when W t n (pending k s v c) h q a = (h, a.0)

-- an expression can stay at its tick, where each pending call can stand
pub pass_now : (W : World) (t : ℕ) (e : Expression) → AllCanStand W.meaning t e → Pass W t t e
pass_now W t e a = pass_when W t t e (le_refl t) (inl refl) a

waits_due : (t n : ℕ) (p : Parameter) → Waits t n p → (n ≡ t) ⊎ (ready p ≡ 0)
waits_due t n (value v) h = inl h
waits_due t n (variable x) h = inr refl

both_clear : (n t a b : ℕ) → (n ≡ t) ⊎ (a ≡ 0) → (n ≡ t) ⊎ (b ≡ 0) → (n ≡ t) ⊎ (a + b ≡ 0)
both_clear n t a b (inl p) q = inl p
both_clear n t a b (inr p) (inl q) = inl q
both_clear n t a b (inr p) (inr q) = inr (omega arith)

-- Time passes over no call that is due.
pub pass_due : (W : World) (t n : ℕ) (e : Expression) → Pass W t n e → (n ≡ t) ⊎ (due_count e ≡ 0)
unfolding due_count
pass_due W t n stop h = inr refl
pass_due W t n (site_call s p) h = waits_due t n p h
pass_due W t n (definition_call i p) h = waits_due t n p h
pass_due W t n (parallel f g) h = both_clear n t _ _ (pass_due W t n f h.0) (pass_due W t n g h.1)
pass_due W t n (sequential x f g) h = pass_due W t n f h
pass_due W t n (pruning x f g) h = both_clear n t _ _ (pass_due W t n f h.0) (pass_due W t n g h.1)
pass_due W t n (pending k s v c) h = inr refl
