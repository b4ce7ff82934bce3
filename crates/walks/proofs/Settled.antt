-- Lapsing and simplification together, head by head.
use Rattle.std.proofs.Common.{◌≡◌, ℕ, ◌+◌, true, false, cond, ◌⊎◌, List, ◌++◌, length, take, sym, ap, ◌∙◌, inl, inr, append_assoc}
use Rattle.std.proofs.lemmas.List.{length-append, take_at}
use Rattle.orc.specs.Meaning.{Meaning, handle, within_reach}
use Rattle.orc.specs.Expressions.{Expression, stop, parallel, sequential, pruning, pending}
use Rattle.orc.specs.Simplified.{is_stop, parallel_of, sequential_of, pruning_of, simplified}
use Rattle.orc.specs.Calls.{lapsed}
use Rattle.forms.specs.Heads.{headed}
use Rattle.forms.specs.declared.form.Parameter.{Parameter}
use Rattle.forms.specs.declared.form.Head.{Head}
use Rattle.forms.specs.declared.form.Head.TheVariants.{Stop, SiteCall, DefinitionCall}

module _ (m : Meaning) (n : ℕ) where
  abbrev settled : Expression → Expression
  settled e = simplified (lapsed m n e)

  -- stop and the calls that are not made yet stay as they are
  pub settled_alone : {e : Expression} (h : Head) → (h ≡ Stop) ⊎ (((s : ℕ) × (p : Parameter) × (h ≡ SiteCall s p)) ⊎ ((i : ℕ) × (p : Parameter) × (h ≡ DefinitionCall i p))) → headed h ≡ e → e ≡ settled e
  unfolding simplified lapsed
  settled_alone h (inl is) e = sym e ∙ ap headed is ∙ ap settled (sym (ap headed is) ∙ e)
  settled_alone h (inr (inl (s, p, is))) e = sym e ∙ ap headed is ∙ ap settled (sym (ap headed is) ∙ e)
  settled_alone h (inr (inr (i, p, is))) e = sym e ∙ ap headed is ∙ ap settled (sym (ap headed is) ∙ e)

  pub parallel_left_stop : {e : Expression} (f g : Expression) → parallel f g ≡ e → true ≡ is_stop (settled f) → settled g ≡ settled e
  unfolding simplified lapsed parallel_of
  parallel_left_stop f g is stops = ap (λ b. cond b (settled g) (cond (is_stop (settled g)) (settled f) (parallel (settled f) (settled g)))) stops ∙ ap settled is

  pub settled_parallel : {e : Expression} (f g : Expression) → parallel f g ≡ e → parallel_of (settled f) (settled g) ≡ settled e
  unfolding simplified lapsed
  settled_parallel f g is = ap settled is

  pub sequential_left_stop : {e : Expression} (x : ℕ) (f g : Expression) → sequential x f g ≡ e → true ≡ is_stop (settled f) → stop ≡ settled e
  unfolding simplified lapsed sequential_of
  sequential_left_stop x f g is stops = ap (λ b. cond b stop (sequential x (settled f) (settled g))) stops ∙ ap settled is

  pub settled_sequential : {e : Expression} (x : ℕ) (f g : Expression) → sequential x f g ≡ e → false ≡ is_stop (settled f) → sequential x (settled f) (settled g) ≡ settled e
  unfolding simplified lapsed sequential_of
  settled_sequential x f g is runs = ap (λ b. cond b stop (sequential x (settled f) (settled g))) runs ∙ ap settled is

  pub settled_pruning : {e : Expression} (x : ℕ) (f g : Expression) → pruning x f g ≡ e → pruning_of x (settled f) (settled g) ≡ settled e
  unfolding simplified lapsed
  settled_pruning x f g is = ap settled is

  pub settled_reached : {e : Expression} (k s v c : ℕ) → pending k s v c ≡ e → true ≡ within_reach (handle m s v) c n → e ≡ settled e
  unfolding simplified lapsed
  settled_reached k s v c is reached = sym is ∙ ap (λ b. simplified (cond b (pending k s v c) stop)) reached ∙ ap settled is

  pub settled_lapsed : {e : Expression} (k s v c : ℕ) → pending k s v c ≡ e → false ≡ within_reach (handle m s v) c n → stop ≡ settled e
  unfolding simplified lapsed
  settled_lapsed k s v c is past = ap (λ b. simplified (cond b (pending k s v c) stop)) past ∙ ap settled is

-- a header and a left part, written behind what stood there before
module _ (o h u l₁ l₂ : List ℕ) (first : l₁ ≡ o ++ h) (second : l₂ ≡ l₁ ++ u) where
  pub left_behind : l₂ ≡ (o ++ h) ++ u
  left_behind = second ∙ ap (λ l. l ++ u) first

  pub left_length : length l₂ ≡ length o + length h + length u
  left_length = ap length left_behind ∙ length-append (o ++ h) u ∙ ap (λ n. n + length u) (length-append o h)

  -- both are cut off again
  pub cut_back : (l₃ : List ℕ) (start : ℕ) → start ≡ length o → l₃ ≡ take start l₂ → l₃ ≡ o
  cut_back l₃ start long cut = cut ∙ ap (take start) (left_behind ∙ append_assoc o h u) ∙ take_at o (h ++ u) start (sym long)

  -- a right part follows
  pub right_behind : (v l₃ : List ℕ) → l₃ ≡ l₂ ++ v → l₃ ≡ o ++ (h ++ (u ++ v))
  right_behind v l₃ third = third ∙ ap (λ l. l ++ v) left_behind ∙ append_assoc (o ++ h) u v ∙ append_assoc o h (u ++ v)
