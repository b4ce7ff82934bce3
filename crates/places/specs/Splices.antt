-- Transitions made in the bytes of a form: a stretch at a place is replaced, and all that stands before and behind it stays.
-- Assumes nothing.
use Rattle.std.specs.Prelude.{◌≡◌, ℕ, ◌+◌, ◌≤◌, true, not, List, [], ◌∷◌, ◌++◌, length, take, drop, IfSome, Some, None, filter, Option, ◌==◌}
use Rattle.std.specs.List.{between}
use Rattle.orc.specs.Meaning.{handle, can_reply}
use Rattle.orc.specs.Expressions.{Parameter, value, variable, Expression, stop, site_call, definition_call, parallel, sequential, pruning, pending, World, bytes}
use Rattle.orc.specs.Variables.{substitute}
use Rattle.orc.specs.Calls.{Pending, pending_calls, RightsUnbegun}
use Rattle.orc.specs.Steps.{Act, inner, out, Leaf, due, reply, Step}
use Rattle.orc.specs.Sound.{DistinctTickets}
use Rattle.forms.specs.Reading.{expression_of}
use Rattle.forms.specs.Heads.{IsForm}
use Rattle.places.specs.Places.{due_place}
use Rattle.places.specs.Scans.{ticket_place}
use Rattle.places.specs.Frames.{nearest_frame}
use Rattle.places.specs.declared.stretch.Stretch.{Stretch}

-- the bytes from one offset up to another replaced by new ones
abbrev pub spliced : List ℕ → ℕ → ℕ → List ℕ → List ℕ
spliced bs at end new = take at bs ++ (new ++ drop end bs)

-- The bytes bs' are a form again, and bs become bs' by a transition: of the leaf l with act a, withdrawing the pending calls
-- that are gone, at tick t and with ticket k for a site call.
pub record Transition (W : World) (t k : ℕ) (bs : List ℕ) (l : Leaf) (a : Act) (gone : List Pending) (bs' : List ℕ) : Type 0 where
  pub form : IsForm bs'
  pub step : Step W t k (expression_of bs) l a gone (expression_of bs')

abbrev pub HasValue : Parameter → Type 0
HasValue (value v) = Unit {0}
HasValue (variable x) = ⊥

-- a site call or a definition call with a value
abbrev pub IsDue : Expression → Type 0
IsDue stop = ⊥
IsDue (site_call s p) = HasValue p
IsDue (definition_call i p) = HasValue p
IsDue (parallel f g) = ⊥
IsDue (sequential x f g) = ⊥
IsDue (pruning x f g) = ⊥
IsDue (pending k s v c) = ⊥

-- At the offset p stands the due call n, in 5 bytes. What it becomes by itself, put in its place, is what the whole becomes.
pub record DueThere (bs : List ℕ) (n p : ℕ) : Type 0 where
  pub whole : p + 5 ≤ length bs
  pub is_due : IsDue (expression_of (drop p bs))
  pub moves : (W : World) (t k : ℕ) (a : Act) (e : Expression) → Step W t k (expression_of (drop p bs)) (due 0) a [] e → Transition W t k bs (due n) a [] (spliced bs p (p + 5) (bytes e))

abbrev pub DueCallsMoveInPlace : Type 0
DueCallsMoveInPlace = (bs : List ℕ) (n p : ℕ) → IsForm bs → due_place n (expression_of bs) ≡ Some p → DueThere bs n p

-- A frame around the pending call at the offset p, which has 12 bytes: a form itself, with the call inside.
pub record Around (bs : List ℕ) (p : ℕ) (s : Stretch) : Type 0 where
  pub before : s.at ≤ p
  pub behind : p + 12 ≤ s.end
  pub within : s.end ≤ length bs
  pub form : IsForm (between s.at s.end bs)

-- What the reply w to the pending call at p, of ticket j, makes of the frame. A sequential gets a copy of its right part
-- beside it, with w for its variable, and stop in the call's place. A pruning becomes its left part, with w for its
-- variable, and the other pending calls of its right part are withdrawn. Nothing else is a frame.
module _ (W : World) (t k : ℕ) (bs : List ℕ) (j w p : ℕ) where
  abbrev pub Taken : Stretch → Expression → Type 0
  Taken s stop = ⊥
  Taken s (site_call i a) = ⊥
  Taken s (definition_call i a) = ⊥
  Taken s (parallel f g) = ⊥
  Taken s (sequential x f g) = Transition W t k bs (reply j w) inner [] (spliced bs s.at s.end (3 ∷ (between s.at p bs ++ (0 ∷ (between (p + 12) s.end bs ++ bytes (substitute w x g))))))
  Taken s (pruning x f g) = Transition W t k bs (reply j w) inner (filter (λ q. not (j == q.ticket)) (pending_calls g)) (spliced bs s.at s.end (bytes (substitute w x f)))
  Taken s (pending i r v c) = ⊥

  -- what it makes of the whole: without a frame the call becomes stop, and w is published
  abbrev pub Effect : Option Stretch → Type 0
  Effect None = Transition W t k bs (reply j w) (out w) [] (spliced bs p (p + 12) (0 ∷ []))
  Effect (Some s) = Taken s (expression_of (between s.at s.end bs))

-- a pending call of ticket j, each admitted reply to which has that effect
abbrev pub TakesReplies : List ℕ → ℕ → ℕ → Expression → Type 0
TakesReplies bs j p stop = ⊥
TakesReplies bs j p (site_call s a) = ⊥
TakesReplies bs j p (definition_call i a) = ⊥
TakesReplies bs j p (parallel f g) = ⊥
TakesReplies bs j p (sequential x f g) = ⊥
TakesReplies bs j p (pruning x f g) = ⊥
TakesReplies bs j p (pending i s v c) = (i ≡ j) × ((W : World) (t k w : ℕ) → can_reply (handle W.meaning s v) c t w ≡ true → Effect W t k bs j w p (nearest_frame p (expression_of bs)))

-- At the offset p stands the pending call of ticket j, in 12 bytes.
pub record PendingThere (bs : List ℕ) (j p : ℕ) : Type 0 where
  pub whole : p + 12 ≤ length bs
  pub frame : IfSome (nearest_frame p (expression_of bs)) (Around bs p)
  pub replies : TakesReplies bs j p (expression_of (drop p bs))

abbrev pub RepliesTakeEffectInPlace : Type 0
RepliesTakeEffectInPlace = (bs : List ℕ) (j p : ℕ) → IsForm bs → RightsUnbegun (expression_of bs) → DistinctTickets (expression_of bs) → ticket_place j (expression_of bs) ≡ Some p → PendingThere bs j p
