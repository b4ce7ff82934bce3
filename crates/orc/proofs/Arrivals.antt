-- Values that arrive from outside: what they do to an execution, and executions that only wait while they come. Assumes
-- nothing.
use Rattle.std.proofs.Common.{◌≡◌, ℕ, ◌≤◌, Bool, true, false, eqb, List, [], ◌∷◌, ◌++◌, sym, refl, ap, ◌∙◌, subst, append-nil, arith}
use Rattle.std.proofs.lemmas.Bool.{cond-true, cond-false}
use Rattle.std.proofs.lemmas.Bool.Decides.{nat_tests}
use Rattle.orc.specs.Expressions.{Parameter, value, variable, Expression, pruning, World}
use Rattle.orc.specs.Variables.{replaced, substitute}
use Rattle.orc.specs.Calls.{NothingPending}
use Rattle.orc.specs.Steps.{Pass}
use Rattle.orc.specs.Executions.{Event, arrived, Moves, takes_in, Execution}
use Rattle.orc.specs.Traces.{Timely, Idle, idle_end, idle_more, IdleBut, idle_but_end, idle_but_more}
use Rattle.orc.proofs.Times.{execution_later, timely_ordered, timely_earlier}
use Rattle.orc.proofs.Unbegun.{stays, pending_calls_substitute}

eqb_swap : (x y : ℕ) (b : Bool) → eqb x y ≡ b → eqb y x ≡ b
eqb_swap x y b h = grind (arith, nat_tests)

-- a call with the variable x, where c makes the call with a parameter: a value for another variable leaves it as it is
module _ (x : ℕ) (c : Parameter → Expression) (substitutes : (v y : ℕ) → substitute v y (c (variable x)) ≡ c (replaced v y (variable x))) where
  pub call_kept : (v y : ℕ) → eqb x y ≡ false → substitute v y (c (variable x)) ≡ c (variable x)
  call_kept v y h = substitutes v y ∙ ap c (cond-false (eqb y x) (value v) (variable x) (eqb_swap x y false h))

  pub call_freed : (v y : ℕ) → eqb x y ≡ true → substitute v y (c (variable x)) ≡ c (value v)
  call_freed v y h = substitutes v y ∙ ap c (cond-true (eqb y x) (value v) (variable x) (eqb_swap x y true h))

-- a value for the variable that a pruning binds leaves its left part alone, one for another variable reaches both
pub pruning_own : (x y v : ℕ) (f g : Expression) → eqb x y ≡ true → substitute v y (pruning x f g) ≡ pruning x f (substitute v y g)
unfolding substitute
pruning_own x y v f g h = ap (λ (e : Expression). pruning x e (substitute v y g)) (cond-true (eqb y x) f (substitute v y f) (eqb_swap x y true h))

pub pruning_shared : (x y v : ℕ) (f g : Expression) → eqb x y ≡ false → substitute v y (pruning x f g) ≡ pruning x (substitute v y f) (substitute v y g)
unfolding substitute
pruning_shared x y v f g h = ap (λ (e : Expression). pruning x e (substitute v y g)) (cond-false (eqb y x) f (substitute v y f) (eqb_swap x y false h))

module _ (W : World) where
  -- an execution that begins with an arrival goes on with e', which is e with the value put in
  pub arrives : (t u n x v : ℕ) (e e' : Expression) (ms : List Event) → substitute v x e ≡ e' → Pass W t u e → Execution W u e' ms n → Execution W t e (arrived u x v ∷ ms) n
  arrives t u n x v e e' ms q p r = (substitute v x e, record { passes = p; moves = takes_in }, subst (λ (e : Expression). Execution W u e ms n) (sym q) r)

  left_by : {u x v : ℕ} {e e' : Expression} → Moves W e (arrived u x v) e' → e' ≡ substitute v x e
  left_by takes_in = refl

  pub has_arrived : (t u n x v : ℕ) (e e' : Expression) (ms : List Event) → substitute v x e ≡ e' → Execution W t e (arrived u x v ∷ ms) n → Pass W t u e × Execution W u e' ms n
  has_arrived t u n x v e e' ms q r = (r.1.passes, subst (λ (e : Expression). Execution W u e ms n) (left_by r.1.moves ∙ q) r.2)

  -- an arrival before the first event that leaves e as it is
  arrives_first : (t u n x v : ℕ) (e : Expression) (ms : List Event) → substitute v x e ≡ e → t ≤ u → Timely u ms n → Execution W t e ms n → Execution W t e (arrived u x v ∷ ms) n
  arrives_first t u n x v e ms q a h r = let c = execution_later W t u n e ms a h r in arrives t u n x v e e ms q c.0 c.1

  -- arrivals before the first event, of an expression that they leave as it is: it has no free variable, or none but x
  pub idles : {ms : List Event} → Idle ms → (t n : ℕ) (e : Expression) (ms' : List Event) → ((v x : ℕ) → substitute v x e ≡ e) → Timely t (ms ++ ms') n → Execution W t e ms' n → Execution W t e (ms ++ ms') n
  idles idle_end t n e ms' q h r = r
  idles (idle_more {t = u} {x = x} {v = v} {ms = ms} i) t n e ms' q h r = arrives_first t u n x v e (ms ++ ms') (q v x) h.0 h.1 (idles i t n e ms' q (timely_earlier t u n (ms ++ ms') h.0 h.1) r)

  pub idles_but : {x : ℕ} {ms : List Event} → IdleBut x ms → (t n : ℕ) (e : Expression) (ms' : List Event) → ((v y : ℕ) → eqb x y ≡ false → substitute v y e ≡ e) → Timely t (ms ++ ms') n → Execution W t e ms' n → Execution W t e (ms ++ ms') n
  idles_but idle_but_end t n e ms' q h r = r
  idles_but (idle_but_more {t = u} {y = y} {v = v} {ms = ms} a i) t n e ms' q h r = arrives_first t u n y v e (ms ++ ms') (q v y a) h.0 h.1 (idles_but i t n e ms' q (timely_earlier t u n (ms ++ ms') h.0 h.1) r)

  -- arrivals at the tick of the beginning, at which the execution ends too: with nothing pending any expression has it
  pub idles_at_once : {ms : List Event} → Idle ms → (t n : ℕ) (e : Expression) → NothingPending e → n ≡ t → Timely t ms n → Execution W t e ms n
  idles_at_once idle_end t n e b q h = subst (λ (n : ℕ). Pass W t n e) (sym q) (stays W t e b)
  idles_at_once (idle_more {t = u} {x = x} {v = v} {ms = ms} i) t n e b q h =
      let a : u ≤ n = timely_ordered u n ms h.1 in
      let at_once : u ≡ t = omega arith in
      arrives t u n x v e (substitute v x e) ms refl (subst (λ (u : ℕ). Pass W t u e) (sym at_once) (stays W t e b)) (idles_at_once i u n (substitute v x e) (pending_calls_substitute v x e ∙ b) (q ∙ sym at_once) h.1)

  -- the same with no event behind them
  pub only_idles : {ms : List Event} → Idle ms → (t n : ℕ) (e : Expression) → ((v x : ℕ) → substitute v x e ≡ e) → Timely t ms n → Pass W t n e → Execution W t e ms n
  only_idles {ms} i t n e q h r = rw append-nil at (idles i t n e [] q (rw append-nil h) r)

  pub only_idles_but : {x : ℕ} {ms : List Event} → IdleBut x ms → (t n : ℕ) (e : Expression) → ((v y : ℕ) → eqb x y ≡ false → substitute v y e ≡ e) → Timely t ms n → Pass W t n e → Execution W t e ms n
  only_idles_but {ms} i t n e q h r = rw append-nil at (idles_but i t n e [] q (rw append-nil h) r)
