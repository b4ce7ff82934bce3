-- Windows see a call's age alone. Assumes nothing.
use Rattle.std.proofs.Common.{◌≡◌, ℕ, ◌+◌, ◌≤◌, Bool, true, List, [], ◌∷◌, ⊎_elim, arith}
use Rattle.std.proofs.lemmas.Bool.{or_cases, or_left, or_right}
use Rattle.std.proofs.lemmas.Bool.Decides.{nat_tests}
use Rattle.orc.specs.Meaning.{Window, Handle, reaches, admits, some, within_reach, can_stand, can_reply}

-- a weaker test passes where a stronger one does
some_more : {X : Type 0} (f g : X → Bool) → ((x : X) → f x ≡ true → g x ≡ true) → (xs : List X) → some f xs ≡ true → some g xs ≡ true
some_more f g h [] p = p
some_more f g h (x ∷ xs) p = ⊎_elim (λ q. or_left (g x) (some g xs) (h x q)) (λ q. or_right (g x) (some g xs) (some_more f g h xs q)) (or_cases (f x) (some f xs) p)

-- c n and c' n': the clock of a call and a tick, twice. The premises compare the two ages.
module _ (c n c' n' : ℕ) (no-older : n' + c ≤ n + c') where
  reaches_no_older : (w : Window) → reaches c n w ≡ true → reaches c' n' w ≡ true
  reaches_no_older w p = grind (arith, nat_tests)

  pub stands_no_older : (h : Handle) → can_stand h c n ≡ true → can_stand h c' n' ≡ true
  unfolding can_stand within_reach
  stands_no_older h p = ⊎_elim (or_left h.silent _) (λ q. or_right h.silent _ (some_more (reaches c n) (reaches c' n') reaches_no_older h.windows q)) (or_cases h.silent _ p)

  admits_as_old : n + c' ≤ n' + c → (v : ℕ) (w : Window) → admits c n v w ≡ true → admits c' n' v w ≡ true
  admits_as_old no-younger v w p = grind (arith, nat_tests)

  pub replies_as_old : n + c' ≤ n' + c → (v : ℕ) (h : Handle) → can_reply h c n v ≡ true → can_reply h c' n' v ≡ true
  unfolding can_reply
  replies_as_old no-younger v h = some_more (admits c n v) (admits c' n' v) (admits_as_old no-younger v) h.windows

-- what can be answered now can stand until now
pub replies_stands : (h : Handle) (c n v : ℕ) → can_reply h c n v ≡ true → can_stand h c n ≡ true
unfolding can_stand within_reach can_reply
replies_stands h c n v p = or_right h.silent _ (some_more (admits c n v) (reaches c n) (λ w q. grind (arith, nat_tests)) h.windows p)
