-- What an expression and a list of definitions keep so that each call's transition is determined. Assumes nothing.
use Rattle.std.specs.Prelude.{◌≡◌, ℕ, ◌<◌, ◌≤◌, true, false, List, length, count_by, nat_eq}
use Rattle.std.specs.List.{AllByRecursion}
use Rattle.orc.specs.Meaning.{Meaning, can_stand}
use Rattle.orc.specs.Expressions.{Expression, stop, site_call, definition_call, parallel, sequential, pruning, pending, Definition, World}
use Rattle.orc.specs.Variables.{free}
use Rattle.orc.specs.Calls.{pending_calls, handle_at, NothingPendingIn, RightsUnbegun}

-- no variable is free
abbrev pub Closed : Expression → Type 0
Closed e = (x : ℕ) → free x e ≡ false

-- in the body of a definition no variable is free but its formal
abbrev pub ClosedButFormal : Definition → Type 0
ClosedButFormal d = (x : ℕ) → free x d.body ≡ true → x ≡ d.formal

-- each definition that is called stands in the list
unfoldable pub NumbersWithin : List Definition → Expression → Type 0
NumbersWithin ds stop = Unit {0}
NumbersWithin ds (site_call s p) = Unit {0}
NumbersWithin ds (definition_call i p) = i < length ds
NumbersWithin ds (parallel f g) = NumbersWithin ds f × NumbersWithin ds g
NumbersWithin ds (sequential x f g) = NumbersWithin ds f × NumbersWithin ds g
NumbersWithin ds (pruning x f g) = NumbersWithin ds f × NumbersWithin ds g
NumbersWithin ds (pending k s v c) = Unit {0}

-- how many pending calls have the ticket k
abbrev pub standing : ℕ → Expression → ℕ
standing k e = count_by (λ p. nat_eq k p.ticket) (pending_calls e)

-- no two pending calls have the same ticket
abbrev pub DistinctTickets : Expression → Type 0
DistinctTickets e = (k : ℕ) → standing k e ≤ 1

-- each pending call can be unanswered at tick n
abbrev pub AllCanStand : Meaning → ℕ → Expression → Type 0
AllCanStand m n e = AllByRecursion (λ p. can_stand (handle_at m p) p.since n ≡ true) (pending_calls e)

-- an expression in which the ticket or the number of a call tells which call is meant, and what it becomes
pub record Sound (W : World) (e : Expression) : Type 0 where
  pub distinct : DistinctTickets e
  pub unbegun : RightsUnbegun e
  pub numbers : NumbersWithin W.definitions e

-- definitions whose unfolding brings no free variable, no pending call and no number that leads nowhere
pub record SoundDefinitions (ds : List Definition) : Type 0 where
  pub closed : AllByRecursion ClosedButFormal ds
  pub nothing_pending : NothingPendingIn ds
  pub numbers : AllByRecursion (λ d. NumbersWithin ds d.body) ds
