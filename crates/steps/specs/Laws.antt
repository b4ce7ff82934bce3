-- What is proved of calls made and replies taken in the bytes of a form: each is a transition, and there is room for it.
-- Assumes nothing.
use Rattle.std.specs.Prelude.{◌≡◌, ℕ, ◌≤◌, true, not, List, [], length, drop, Some, None, filter, Option, ◌==◌}
use Rattle.std.specs.List.{AllByRecursion}
use Rattle.orc.specs.Meaning.{Meaning, handle, can_reply}
use Rattle.orc.specs.Expressions.{pending, Definition, World, size}
use Rattle.orc.specs.Calls.{Pending, pending_calls, RightsUnbegun}
use Rattle.orc.specs.Steps.{Act, due, reply}
use Rattle.orc.specs.Sound.{NumbersWithin, DistinctTickets}
use Rattle.forms.specs.Reading.{expression_of}
use Rattle.forms.specs.Heads.{IsForm}
use Rattle.places.specs.Places.{due_place}
use Rattle.places.specs.Scans.{ticket_place}
use Rattle.places.specs.Frames.{nearest_frame}
use Rattle.places.specs.Splices.{Transition}
use Rattle.places.specs.declared.stretch.Stretch.{Stretch}
use Rattle.walks.specs.Capacity.{capacity}
use Rattle.steps.specs.Made.{Made}
use Rattle.steps.specs.Replied.{read_in, Replied}

-- A due call that is made where it stands is a transition of the whole form.
abbrev pub MadeCallsAreTransitions : Type 0
MadeCallsAreTransitions =
    (bs : List ℕ) (n p : ℕ) → IsForm bs → due_place n (expression_of bs) ≡ Some p →
    (ds : List Definition) (t k : ℕ) (a : Act) (bs' : List ℕ) → Made ds t k bs p a bs' →
    (m : Meaning) → Transition (record { meaning = m; definitions = ds }) t k bs (due n) a [] bs'

-- Every due call of a form of at most 4,096 bytes can be made, and there is room for what comes of it: each definition that
-- is called is there, and the bodies are no longer either.
abbrev pub DueCallsCanBeMade : Type 0
DueCallsCanBeMade =
    (bs : List ℕ) (n p : ℕ) (ds : List Definition) (t k : ℕ) → IsForm bs → length bs ≤ 4096 → due_place n (expression_of bs) ≡ Some p →
    NumbersWithin ds (expression_of bs) → AllByRecursion (λ d. size d.body ≤ 4096) ds →
    (a : Act) × (bs' : List ℕ) × Made ds t k bs p a bs' × (length bs' ≤ capacity)

-- the pending calls that a reply to ticket j withdraws: those of the stretch that ends with it, but for the call itself
abbrev pub withdrawn_with : ℕ → List ℕ → Option Stretch → List Pending
withdrawn_with j bs None = []
withdrawn_with j bs (Some q) = filter (λ x. not (j == x.ticket)) (pending_calls (read_in bs q))

-- At the offset p stands the pending call of ticket j. Each reply that a window admits, taken in the bytes, is a transition.
pub record RepliesMove (bs : List ℕ) (j p : ℕ) : Type 0 where
  pub site : ℕ
  pub value : ℕ
  pub since : ℕ
  pub is : expression_of (drop p bs) ≡ pending j site value since
  pub moves : (W : World) (t k w : ℕ) → can_reply (handle W.meaning site value) since t w ≡ true →
      {a : Act} {q : Option Stretch} {bs' : List ℕ} → Replied bs p w (nearest_frame p (expression_of bs)) a q bs' →
      Transition W t k bs (reply j w) a (withdrawn_with j bs q) bs'

abbrev pub RepliesAreTransitions : Type 0
RepliesAreTransitions =
    (bs : List ℕ) (j p : ℕ) → IsForm bs → RightsUnbegun (expression_of bs) → DistinctTickets (expression_of bs) →
    ticket_place j (expression_of bs) ≡ Some p → RepliesMove bs j p

-- Every pending call of a form of at most 4,096 bytes can be answered, and there is room for what comes of it.
abbrev pub RepliesCanBeMade : Type 0
RepliesCanBeMade =
    (bs : List ℕ) (j p : ℕ) → IsForm bs → RightsUnbegun (expression_of bs) → DistinctTickets (expression_of bs) →
    ticket_place j (expression_of bs) ≡ Some p → length bs ≤ 4096 → (w : ℕ) →
    (a : Act) × (q : Option Stretch) × (bs' : List ℕ) × Replied bs p w (nearest_frame p (expression_of bs)) a q bs' × (length bs' ≤ capacity)
