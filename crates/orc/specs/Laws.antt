-- The laws of expressions, of simplification and lapsing, and of transitions. Each is the contract of a function of
-- src/laws.rt. Assumes nothing.
use Rattle.std.specs.Prelude.{◌≡◌, ℕ, ◌+◌, ◌<◌, ◌≤◌, Bool, true, false, not, ◌↔◌, List, [], ◌∷◌, count_by, filter}
use Rattle.std.specs.List.{ContainsAt as Has, AllByRecursion}
use Rattle.orc.specs.Meaning.{Meaning, can_reply}
use Rattle.orc.specs.Expressions.{Expression, stop, parallel, sequential, pruning, size, World}
use Rattle.orc.specs.Variables.{substitute, free}
use Rattle.orc.specs.Simplified.{simplified}
use Rattle.orc.specs.Calls.{Pending, pending_calls, handle_at, due_count, lapses, lapsed, RightsUnbegun}
use Rattle.orc.specs.Steps.{Act, called, inner, out, Leaf, due, reply, Step, Pass}
use Rattle.orc.specs.Executions.{Event, Execution}
use Rattle.orc.specs.Sound.{Closed, ClosedButFormal, AllCanStand, standing, Sound, SoundDefinitions}

-- A value may be put in before simplification or after it.
abbrev pub SubstitutionCommutesWithSimplification : Type 0
SubstitutionCommutesWithSimplification = (v x : ℕ) (e : Expression) → substitute v x (simplified e) ≡ simplified (substitute v x e)

-- What is simplified has nothing left to simplify.
abbrev pub SimplificationIsIdempotent : Type 0
SimplificationIsIdempotent = (e : Expression) → simplified (simplified e) ≡ simplified e

-- Simplification makes no form longer.
abbrev pub SimplificationNeverLengthens : Type 0
SimplificationNeverLengthens = (e : Expression) → size (simplified e) ≤ size e

-- A variable that is free in the simplified expression was free before.
abbrev pub SimplificationFreesNoVariable : Type 0
SimplificationFreesNoVariable = (x : ℕ) (e : Expression) → free x (simplified e) ≡ true → free x e ≡ true

-- Simplification leaves every pending call, and their order, where none stands in the right part of a sequential.
abbrev pub SimplificationKeepsPendingCalls : Type 0
SimplificationKeepsPendingCalls = (e : Expression) → RightsUnbegun e → pending_calls (simplified e) ≡ pending_calls e

-- begun at tick t, the two have the same executions, arrivals included
abbrev pub SameExecutions : World → ℕ → Expression → Expression → Type 0
SameExecutions W t e e' = (ms : List Event) (n : ℕ) → Execution W t e ms n ↔ Execution W t e' ms n

-- Each of the four identities keeps the executions, begun at any tick. The last one asks that a transition of f frees no
-- variable: that no definition has a free variable but its formal.
pub record IdentitiesKeepExecutions : Type 0 where
  pub stop_on_the_left : (W : World) (t : ℕ) (g : Expression) → SameExecutions W t (parallel stop g) g
  pub stop_on_the_right : (W : World) (t : ℕ) (f : Expression) → SameExecutions W t (parallel f stop) f
  pub nothing_published : (W : World) (t x : ℕ) (g : Expression) → SameExecutions W t (sequential x stop g) stop
  pub nothing_pruned : (W : World) → AllByRecursion ClosedButFormal W.definitions → (t x : ℕ) (f : Expression) → free x f ≡ false → SameExecutions W t (pruning x f stop) f

-- So does simplification as a whole.
abbrev pub SimplificationKeepsExecutions : Type 0
SimplificationKeepsExecutions = (W : World) → AllByRecursion ClosedButFormal W.definitions → (t : ℕ) (e : Expression) → SameExecutions W t e (simplified e)

-- Lapsing at tick u keeps the executions from u on, where each pending call can stand at u: then a call that no window
-- reaches is silent, and as good as stop.
abbrev pub LapsingKeepsExecutions : Type 0
LapsingKeepsExecutions = (W : World) (u t : ℕ) (e : Expression) → u ≤ t → AllCanStand W.meaning u e → SameExecutions W t e (lapsed W.meaning u e)

-- Lapsing ends the pending calls that lapse, and no other.
abbrev pub LapsingEndsWhatLapses : Type 0
LapsingEndsWhatLapses = (m : Meaning) (n : ℕ) (e : Expression) → pending_calls (lapsed m n e) ≡ filter (λ p. not (lapses m n p)) (pending_calls e)

-- Time passes to n only if each pending call can stand at n, where none is in the right part of a sequential: so lapsing may
-- follow.
abbrev pub TimePassesOnlyWhileCallsCanStand : Type 0
TimePassesOnlyWhileCallsCanStand = (W : World) (t n : ℕ) (e : Expression) → RightsUnbegun e → Pass W t n e → AllCanStand W.meaning n e

-- The leaf l of e can move, at tick t, with the ticket k for a site call.
pub record CanMove (W : World) (t k : ℕ) (e : Expression) (l : Leaf) : Type 0 where
  pub act : Act
  pub gone : List Pending
  pub result : Expression
  pub step : Step W t k e l act gone result

-- Two steps of one leaf, at one tick and with one ticket, are the same; each of the due calls can move; and so can each reply
-- that a window of a pending call admits.
pub record Determined (W : World) (e : Expression) : Type 0 where
  pub one_outcome : {t k : ℕ} {l : Leaf} {a b : Act} {gone away : List Pending} {e₁ e₂ : Expression} → Step W t k e l a gone e₁ → Step W t k e l b away e₂ → (a ≡ b) × (gone ≡ away) × (e₁ ≡ e₂)
  pub due_calls_move : (t k n : ℕ) → n < due_count e → CanMove W t k e (due n)
  pub replies_move : (t k w : ℕ) (p : Pending) → Has (pending_calls e) p → can_reply (handle_at W.meaning p) p.since t w ≡ true → CanMove W t k e (reply p.ticket w)

-- By its leaf a transition of a sound expression is determined.
abbrev pub LeavesDetermineSteps : Type 0
LeavesDetermineSteps = (W : World) (e : Expression) → Sound W e → Determined W e

-- the pending call that an act begins, at tick t with ticket k: one for a site call, none otherwise
abbrev pub begun : ℕ → ℕ → Act → List Pending
begun t k (called s v) = record { ticket = k; site = s; argument = v; since = t } ∷ []
begun t k inner = []
begun t k (out w) = []

-- Answered W t e l ps: the leaf l stands in e, and ps are the pending calls that it answers at tick t. A due call is one of
-- those counted, and answers none; a reply answers one pending call, one of whose windows admits it.
pub data Answered (W : World) (t : ℕ) (e : Expression) : Leaf → List Pending → Type 0 where
  none_answered : {n : ℕ} → n < due_count e → Answered W t e (due n) []
  one_answered : {p : Pending} {w : ℕ} → Has (pending_calls e) p → can_reply (handle_at W.meaning p) p.since t w ≡ true → Answered W t e (reply p.ticket w) (p ∷ [])

-- Of the pending calls before a step and the one that it begins, each is answered, withdrawn or pending after it, and only
-- one of these. Said by counting: both sides have as many that pass the test f, whatever f is.
pub record Accounted (W : World) (t k : ℕ) (e : Expression) (l : Leaf) (a : Act) (gone : List Pending) (e' : Expression) : Type 0 where
  pub answered : List Pending
  pub by_the_leaf : Answered W t e l answered
  pub balance : (f : Pending → Bool) → count_by f (pending_calls e) + count_by f (begun t k a) ≡ count_by f answered + (count_by f gone + count_by f (pending_calls e'))

-- What a step keeps: an expression stays sound, if the step's ticket was fresh; closed, if it was closed; and no pending call
-- is lost or doubled.
pub record KeptBySteps (W : World) : Type 0 where
  pub sound : {t k : ℕ} {e e' : Expression} {l : Leaf} {a : Act} {gone : List Pending} → Step W t k e l a gone e' → standing k e ≡ 0 → Sound W e → Sound W e'
  pub closed : {t k : ℕ} {e e' : Expression} {l : Leaf} {a : Act} {gone : List Pending} → Step W t k e l a gone e' → Closed e → Closed e'
  pub accounted : {t k : ℕ} {e e' : Expression} {l : Leaf} {a : Act} {gone : List Pending} → Step W t k e l a gone e' → RightsUnbegun e → Accounted W t k e l a gone e'

-- Over sound definitions every step keeps that.
abbrev pub StepsKeepSoundness : Type 0
StepsKeepSoundness = (W : World) → SoundDefinitions W.definitions → KeptBySteps W

-- Simplification and lapsing leave a sound expression sound, and a closed one closed.
pub record SimplificationAndLapsingKeepSoundness : Type 0 where
  pub sound_when_simplified : (W : World) (e : Expression) → Sound W e → Sound W (simplified e)
  pub closed_when_simplified : (e : Expression) → Closed e → Closed (simplified e)
  pub sound_when_lapsed : (W : World) (m : Meaning) (n : ℕ) (e : Expression) → Sound W e → Sound W (lapsed m n e)
  pub closed_when_lapsed : (m : Meaning) (n : ℕ) (e : Expression) → Closed e → Closed (lapsed m n e)

-- A step can be made with any other ticket, and what comes after it is the same: executions do not see tickets.
abbrev pub TicketsAreUnseen : Type 0
TicketsAreUnseen = (W : World) (t k j : ℕ) (e e₁ : Expression) (l : Leaf) (a : Act) (gone : List Pending) → Step W t k e l a gone e₁ → (e₂ : Expression) × Step W t j e l a gone e₂ × ((u : ℕ) → SameExecutions W u e₁ e₂)
