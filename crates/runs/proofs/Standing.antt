-- What becomes of the pending calls when a call is made. Assumes nothing.
use Rattle.std.proofs.Common.{◌≡◌, ℕ, ◌+◌, ◌<◌, ◌≤◌, Bool, true, false, not, eqb, leb, List, [], ◌∷◌, Decides, count_by, refl, ⊎_elim, arith}
use Rattle.std.specs.List.{AllByRecursion}
use Rattle.std.proofs.ByRecursion.{All-weaker}
use Rattle.std.proofs.lemmas.Bool.{or_cases, or_left, or_right, le-leb, leb-true, ne_eqb, not_from_true}
use Rattle.orc.specs.Meaning.{Window, Meaning, handle, reaches, some, within_reach, can_stand, is_known, Lawful}
use Rattle.orc.specs.Expressions.{Expression, World}
use Rattle.orc.specs.Calls.{Pending, pending_calls, handle_at}
use Rattle.orc.specs.Steps.{Act, Leaf, due, reply, behind, Step, calls, unfolds, replies, parallel_left, parallel_right, sequential_keeps, sequential_spawns, pruning_left, pruning_keeps, pruning_binds}
use Rattle.orc.specs.Laws.{begun as made, Accounted}
use Rattle.runs.proofs.Counts.{none_passes, all_pass}

-- What holds of each pending call before a transition, and of the one that it begins, holds of each after it.
pub carried : {W : World} {t k : ℕ} {e e' : Expression} {l : Leaf} {a : Act} {gone : List Pending} (f : Pending → Bool) (P : Pending → Type 0) → ((p : Pending) → Decides (f p) (P p)) → Accounted W t k e l a gone e' → AllByRecursion P (pending_calls e) → AllByRecursion P (made t k a) → AllByRecursion P (pending_calls e')
carried {W} {t} {k} {e} {e'} {l} {a} f P d b old new =
    let fails : Pending → Bool = λ p. not (f p) in
    let none_old = none_passes fails (pending_calls e) (All-weaker P (λ p. fails p ≡ false) (λ p h. not_from_true (f p) ((d p).1 h)) (pending_calls e) old) in
    let none-new = none_passes fails (made t k a) (All-weaker P (λ p. fails p ≡ false) (λ p h. not_from_true (f p) ((d p).1 h)) (made t k a) new) in
    All-weaker (λ p. f p ≡ true) P (λ p h. (d p).0 h) (pending_calls e') (all_pass f (pending_calls e') (omega (arith, b.balance fails)))

-- a test and what it decides
pub decides_leb : (m n : ℕ) → Decides (leb m n) (m ≤ n)
decides_leb m n = (leb-true m n, le-leb m n)

pub decides_itself : (b : Bool) → Decides b (b ≡ true)
decides_itself b = (λ h. h, λ h. h)

-- no pending call has a ticket that has yet to be issued
pub not_issued : (n k : ℕ) (ps : List Pending) → n < k → AllByRecursion (λ p. (1 ≤ p.ticket) × (p.ticket ≤ n)) ps → count_by (λ p. eqb k p.ticket) ps ≡ 0
not_issued n k ps h a = none_passes (λ p. eqb k p.ticket) ps (All-weaker _ (λ p. eqb k p.ticket ≡ false) (λ p q. ne_eqb k p.ticket (λ z. omega arith)) ps a)

-- A pending call that a window reaches can be unanswered.
pub reached_stands : (m : Meaning) (n : ℕ) (ps : List Pending) → AllByRecursion (λ p. within_reach (handle_at m p) p.since n ≡ true) ps → AllByRecursion (λ p. can_stand (handle_at m p) p.since n ≡ true) ps
unfolding can_stand
reached_stands m n ps a = All-weaker _ _ (λ p h. or_right (handle_at m p).silent _ h) ps a

reaches_at_once : (c : ℕ) (ws : List Window) → some (λ w. true) ws ≡ true → some (reaches c c) ws ≡ true
reaches_at_once c [] h = h
reaches_at_once c (w ∷ ws) h = or_left (reaches c c w) _ (or_right _ (leb c (c + w.latest)) (le-leb c (c + w.latest) (omega arith)))

-- So can a call of a known site when it is made.
pub made_stands : (m : Meaning) → Lawful m → (s v c : ℕ) → v ≤ 65535 → is_known (m s) ≡ true → can_stand (handle m s v) c c ≡ true
unfolding can_stand within_reach
made_stands m laws s v c h k =
    ⊎_elim (or_left (handle m s v).silent _) (λ q. or_right (handle m s v).silent _ (reaches_at_once c (handle m s v).windows q)) (or_cases (handle m s v).silent _ (laws.answers s v (omega arith) k))

-- a reply behind due calls is that reply
front : (n : ℕ) (l : Leaf) {l' : Leaf} {j w : ℕ} → l' ≡ behind n l → l' ≡ reply j w → l ≡ reply j w
front n (due i) b q = cc
front n (reply i v) b q = cc

-- A reply begins no pending call.
pub reply_begins : {W : World} {t k : ℕ} {e e' : Expression} {l : Leaf} {a : Act} {gone : List Pending} (j w : ℕ) → l ≡ reply j w → Step W t k e l a gone e' → made t k a ≡ []
reply_begins j w q calls = cc
reply_begins j w q (unfolds d h) = refl
reply_begins j w q (replies h) = refl
reply_begins j w q (parallel_left s) = reply_begins j w q s
reply_begins j w q (parallel_right {l = l} b s) = reply_begins j w (front _ l b q) s
reply_begins j w q (sequential_keeps h s) = reply_begins j w q s
reply_begins j w q (sequential_spawns s) = refl
reply_begins j w q (pruning_left s) = reply_begins j w q s
reply_begins j w q (pruning_keeps {l = l} b h s) = reply_begins j w (front _ l b q) s
reply_begins j w q (pruning_binds b s) = refl
