-- Expressions with a gap where a call may move: in no right part of a sequential. Assumes nothing.
use Rattle.std.proofs.Common.{◌≡◌, ℕ, ◌+◌, List, [], ◌∷◌, ◌++◌, length, sym, refl, ap, ◌∙◌, subst, append_assoc, append-nil, add_assoc, zero-add, arith}
use Rattle.std.proofs.lemmas.List.{length-append}
use Rattle.orc.specs.Expressions.{Expression, parallel, sequential, pruning, World, bytes, size}
use Rattle.orc.specs.Calls.{Pending, pending_calls, due_count}
use Rattle.orc.specs.Steps.{Act, Keeps, Leaf, due, reply, behind, Step, parallel_left, parallel_right, sequential_keeps, pruning_left, pruning_keeps}

pub data Gap : Type 0 where
  here : Gap
  in_parallel_left : Gap → Expression → Gap
  in_parallel_right : Expression → Gap → Gap
  in_sequential_left : ℕ → Gap → Expression → Gap
  in_pruning_left : ℕ → Gap → Expression → Gap
  in_pruning_right : ℕ → Expression → Gap → Gap

abbrev pub fill : Gap → Expression → Expression
fill here e = e
fill (in_parallel_left C g) e = parallel (fill C e) g
fill (in_parallel_right f C) e = parallel f (fill C e)
fill (in_sequential_left x C g) e = sequential x (fill C e) g
fill (in_pruning_left x C g) e = pruning x (fill C e) g
fill (in_pruning_right x f C) e = pruning x f (fill C e)

-- the bytes on both sides of the gap
abbrev pub before : Gap → List ℕ
before here = []
before (in_parallel_left C g) = 3 ∷ before C
before (in_parallel_right f C) = 3 ∷ (bytes f ++ before C)
before (in_sequential_left x C g) = 4 ∷ x ∷ before C
before (in_pruning_left x C g) = 5 ∷ x ∷ before C
before (in_pruning_right x f C) = 5 ∷ x ∷ (bytes f ++ before C)

abbrev pub after : Gap → List ℕ
after here = []
after (in_parallel_left C g) = after C ++ bytes g
after (in_parallel_right f C) = after C
after (in_sequential_left x C g) = after C ++ bytes g
after (in_pruning_left x C g) = after C ++ bytes g
after (in_pruning_right x f C) = after C

-- something further behind the gap, or further before it
further_behind : {X : Type 0} (l m r g : List X) {b : List X} → b ≡ l ++ (m ++ r) → b ++ g ≡ l ++ (m ++ (r ++ g))
further_behind l m r g is = ap (λ b. b ++ g) is ∙ (simp append_assoc)

further_before : {X : Type 0} (l m r f : List X) {b : List X} → b ≡ l ++ (m ++ r) → f ++ b ≡ (f ++ l) ++ (m ++ r)
further_before l m r f is = ap (λ b. f ++ b) is ∙ (simp append_assoc)

pub bytes_filled : (C : Gap) (e : Expression) → bytes (fill C e) ≡ before C ++ (bytes e ++ after C)
unfolding bytes
bytes_filled here e = sym (append-nil (bytes e))
bytes_filled (in_parallel_left C g) e = ap (λ l. 3 ∷ l) (further_behind (before C) (bytes e) (after C) (bytes g) (bytes_filled C e))
bytes_filled (in_parallel_right f C) e = ap (λ l. 3 ∷ l) (further_before (before C) (bytes e) (after C) (bytes f) (bytes_filled C e))
bytes_filled (in_sequential_left x C g) e = ap (λ l. 4 ∷ x ∷ l) (further_behind (before C) (bytes e) (after C) (bytes g) (bytes_filled C e))
bytes_filled (in_pruning_left x C g) e = ap (λ l. 5 ∷ x ∷ l) (further_behind (before C) (bytes e) (after C) (bytes g) (bytes_filled C e))
bytes_filled (in_pruning_right x f C) e = ap (λ l. 5 ∷ x ∷ l) (further_before (before C) (bytes e) (after C) (bytes f) (bytes_filled C e))

-- the due calls to the left of the gap
abbrev pub dues : Gap → ℕ
dues here = 0
dues (in_parallel_left C g) = dues C
dues (in_parallel_right f C) = due_count f + dues C
dues (in_sequential_left x C g) = dues C
dues (in_pruning_left x C g) = dues C
dues (in_pruning_right x f C) = due_count f + dues C

-- An act goes through the gap's surroundings unchanged: always if it publishes nothing, or if no frame takes it.
abbrev pub Lets : Act → Gap → Type 0
Lets a here = Unit {0}
Lets a (in_parallel_left C g) = Lets a C
Lets a (in_parallel_right f C) = Lets a C
Lets a (in_sequential_left x C g) = Keeps a × Lets a C
Lets a (in_pruning_left x C g) = Lets a C
Lets a (in_pruning_right x f C) = Keeps a × Lets a C

abbrev pub Open : Gap → Type 0
Open here = Unit {0}
Open (in_parallel_left C g) = Open C
Open (in_parallel_right f C) = Open C
Open (in_sequential_left x C g) = ⊥
Open (in_pruning_left x C g) = Open C
Open (in_pruning_right x f C) = ⊥

pub lets_quiet : {a : Act} → Keeps a → (C : Gap) → Lets a C
lets_quiet q here = tt
lets_quiet q (in_parallel_left C g) = lets_quiet q C
lets_quiet q (in_parallel_right f C) = lets_quiet q C
lets_quiet q (in_sequential_left x C g) = (q, lets_quiet q C)
lets_quiet q (in_pruning_left x C g) = lets_quiet q C
lets_quiet q (in_pruning_right x f C) = (q, lets_quiet q C)

pub lets_all : (a : Act) (C : Gap) → Open C → Lets a C
lets_all a here o = tt
lets_all a (in_parallel_left C g) o = lets_all a C o
lets_all a (in_parallel_right f C) o = lets_all a C o
lets_all a (in_sequential_left x C g) o = absurd o
lets_all a (in_pruning_left x C g) o = lets_all a C o
lets_all a (in_pruning_right x f C) o = absurd o

-- a leaf behind no due calls, and behind those of two parts
behind_none : (l : Leaf) → behind 0 l ≡ l
behind_none (due n) = ap due (zero-add n)
behind_none (reply j w) = refl

behind_both : (m n : ℕ) (l : Leaf) → behind (m + n) l ≡ behind m (behind n l)
behind_both m n (due i) = ap due (add_assoc m n i)
behind_both m n (reply j w) = refl

-- What moves in the gap moves the whole.
pub moves : {W : World} {t k : ℕ} {e e' : Expression} {l : Leaf} {a : Act} {gone : List Pending} (C : Gap) → Lets a C → Step W t k e l a gone e' → Step W t k (fill C e) (behind (dues C) l) a gone (fill C e')
moves {W} {t} {k} {e} {e'} {l} {a} {gone} here lets s = subst (λ m. Step W t k e m a gone e') (sym (behind_none l)) s
moves (in_parallel_left C g) lets s = parallel_left (moves C lets s)
moves {l = l} (in_parallel_right f C) lets s = parallel_right (behind_both (due_count f) (dues C) l) (moves C lets s)
moves (in_sequential_left x C g) lets s = sequential_keeps lets.0 (moves C lets.1 s)
moves (in_pruning_left x C g) lets s = pruning_left (moves C lets s)
moves {l = l} (in_pruning_right x f C) lets s = pruning_keeps (behind_both (due_count f) (dues C) l) lets.0 (moves C lets.1 s)

-- the pending calls on both sides of the gap
abbrev pub calls_before : Gap → List Pending
calls_before here = []
calls_before (in_parallel_left C g) = calls_before C
calls_before (in_parallel_right f C) = pending_calls f ++ calls_before C
calls_before (in_sequential_left x C g) = calls_before C
calls_before (in_pruning_left x C g) = calls_before C
calls_before (in_pruning_right x f C) = pending_calls f ++ calls_before C

abbrev pub calls_after : Gap → List Pending
calls_after here = []
calls_after (in_parallel_left C g) = calls_after C ++ pending_calls g
calls_after (in_parallel_right f C) = calls_after C
calls_after (in_sequential_left x C g) = calls_after C ++ pending_calls g
calls_after (in_pruning_left x C g) = calls_after C ++ pending_calls g
calls_after (in_pruning_right x f C) = calls_after C

pub calls_filled : (C : Gap) (e : Expression) → pending_calls (fill C e) ≡ calls_before C ++ (pending_calls e ++ calls_after C)
unfolding pending_calls
calls_filled here e = sym (append-nil (pending_calls e))
calls_filled (in_parallel_left C g) e = further_behind (calls_before C) (pending_calls e) (calls_after C) (pending_calls g) (calls_filled C e)
calls_filled (in_parallel_right f C) e = further_before (calls_before C) (pending_calls e) (calls_after C) (pending_calls f) (calls_filled C e)
calls_filled (in_sequential_left x C g) e = further_behind (calls_before C) (pending_calls e) (calls_after C) (pending_calls g) (calls_filled C e)
calls_filled (in_pruning_left x C g) e = further_behind (calls_before C) (pending_calls e) (calls_after C) (pending_calls g) (calls_filled C e)
calls_filled (in_pruning_right x f C) e = further_before (calls_before C) (pending_calls e) (calls_after C) (pending_calls f) (calls_filled C e)

-- One operator around a gap: what it makes of the part that has the gap, which stands behind w bytes and m due calls.
pub record Layer (make : Expression → Expression) (w m : ℕ) : Type 0 where
  pub add : Gap → Gap
  pub fills : (C : Gap) (e : Expression) → fill (add C) e ≡ make (fill C e)
  pub bytes_more : (C : Gap) → length (before (add C)) ≡ w + length (before C)
  pub dues_more : (C : Gap) → dues (add C) ≡ m + dues C

abbrev pub left_of_parallel : (g : Expression) → Layer (λ f. parallel f g) 1 0
left_of_parallel g = record { add = λ C. in_parallel_left C g; fills = λ C e. refl; bytes_more = λ C. omega arith; dues_more = λ C. omega arith }

abbrev pub right_of_parallel : (f : Expression) → Layer (parallel f) (1 + size f) (due_count f)
right_of_parallel f = record { add = in_parallel_right f; fills = λ C e. refl; bytes_more = λ C. omega (arith, length-append (bytes f) (before C)); dues_more = λ C. refl }

abbrev pub left_of_sequential : (x : ℕ) (g : Expression) → Layer (λ f. sequential x f g) 2 0
left_of_sequential x g = record { add = λ C. in_sequential_left x C g; fills = λ C e. refl; bytes_more = λ C. omega arith; dues_more = λ C. omega arith }

abbrev pub left_of_pruning : (x : ℕ) (g : Expression) → Layer (λ f. pruning x f g) 2 0
left_of_pruning x g = record { add = λ C. in_pruning_left x C g; fills = λ C e. refl; bytes_more = λ C. omega arith; dues_more = λ C. omega arith }

abbrev pub right_of_pruning : (x : ℕ) (f : Expression) → Layer (pruning x f) (2 + size f) (due_count f)
right_of_pruning x f = record { add = in_pruning_right x f; fills = λ C e. refl; bytes_more = λ C. omega (arith, length-append (bytes f) (before C)); dues_more = λ C. refl }
