-- The outcome of a call, computed: a tool for proofs. Assumes nothing.
use Rattle.std.proofs.Common.{ℕ, suc, ◌+◌, ◌-◌, Bool, cond, ◌&&◌, ltb, leb, List, [], length, Some, None, Ok, Err, Option}
use Rattle.orc.specs.Meaning.{Meaning, can_reply}
use Rattle.orc.specs.Expressions.{value, variable, Expression, stop, site_call, definition_call, parallel, sequential, pruning, pending, Definition, World, entry, size}
use Rattle.orc.specs.Variables.{substitute}
use Rattle.orc.specs.Calls.{due_count, Pending, pending_calls, handle_at}
use Rattle.orc.specs.Steps.{Act, called, inner, out, Leaf, due, reply}
use Rattle.orc.specs.Sound.{standing}
use Rattle.runs.specs.declared.call.Call.{Call}
use Rattle.runs.specs.declared.call.Call.TheVariants.{Go, Answer, Wait}
use Rattle.runs.specs.declared.refusal.Refusal.{Refusal}
use Rattle.runs.specs.declared.refusal.Refusal.TheVariants.{NotLoaded, NoneDue, NotStanding, OutsideEveryWindow, DueFirst, Overdue, ClockEnd, Outgrown, RecordFull}
use Rattle.runs.specs.States.{State, world_of}
use Rattle.runs.specs.Tickets.{has_ticket}
use Rattle.runs.specs.Outcomes.{Response, largest_form, longest_record, last_clock, settled, stepped, waited, late}
use Rattle.runs.proofs.Finding.{find}

-- what a transition makes of an expression
pub record Effect : Type 0 where
  pub act : Act
  pub gone : List Pending
  pub result : Expression

-- no transition
abbrev none : Effect
none = record { act = inner; gone = []; result = stop }

-- the leaf stands in f, the left of two parts
abbrev pub in_left : Leaf → Expression → Bool
in_left (due n) f = ltb n (due_count f)
in_left (reply j w) f = ltb 0 (standing j f)

-- the leaf as it is numbered in the right part, with m due calls in the left
abbrev pub ahead : ℕ → Leaf → Leaf
ahead m (due n) = due (n - m)
ahead m (reply j w) = reply j w

abbrev pub unfolded : Option Definition → ℕ → Effect
unfolded None v = none
unfolded (Some d) v = record { act = inner; gone = []; result = substitute v d.formal d.body }

abbrev pub replied : Leaf → Effect
replied (due n) = none
replied (reply j w) = record { act = out w; gone = []; result = stop }

-- the effect of a transition of one part, in the whole
abbrev pub beside_left : Expression → Effect → Effect
beside_left g c = record { act = c.act; gone = c.gone; result = parallel c.result g }

abbrev pub beside_right : Expression → Effect → Effect
beside_right f c = record { act = c.act; gone = c.gone; result = parallel f c.result }

abbrev pub before : ℕ → Expression → Act → List Pending → Expression → Effect
before x g (called s v) gone f = record { act = called s v; gone = gone; result = sequential x f g }
before x g inner gone f = record { act = inner; gone = gone; result = sequential x f g }
before x g (out w) gone f = record { act = inner; gone = gone; result = parallel (sequential x f g) (substitute w x g) }

abbrev pub pruned_left : ℕ → Expression → Effect → Effect
pruned_left x g c = record { act = c.act; gone = c.gone; result = pruning x c.result g }

abbrev pub pruned_right : ℕ → Expression → Act → List Pending → Expression → Effect
pruned_right x f (called s v) gone g = record { act = called s v; gone = gone; result = pruning x f g }
pruned_right x f inner gone g = record { act = inner; gone = gone; result = pruning x f g }
pruned_right x f (out w) gone g = record { act = inner; gone = pending_calls g; result = substitute w x f }

-- what the transition of a leaf makes of an expression in which it stands, at tick t, with the ticket k
unfoldable pub moving : World → ℕ → ℕ → Expression → Leaf → Effect
moving W t k stop l = none
moving W t k (site_call s (value v)) l = record { act = called s v; gone = []; result = pending k s v t }
moving W t k (site_call s (variable x)) l = none
moving W t k (definition_call i (value v)) l = unfolded (entry W.definitions i) v
moving W t k (definition_call i (variable x)) l = none
moving W t k (parallel f g) l = cond (in_left l f) (beside_left g (moving W t k f l)) (beside_right f (moving W t k g (ahead (due_count f) l)))
moving W t k (sequential x f g) l = let c = moving W t k f l in before x g c.act c.gone c.result
moving W t k (pruning x f g) l = let c = moving W t k g (ahead (due_count f) l) in cond (in_left l f) (pruned_left x g (moving W t k f l)) (pruned_right x f c.act c.gone c.result)
moving W t k (pending j s v c) l = replied l

abbrev refused : State → Refusal → Response × State
refused s r = (Err r, s)

-- a transition, up to the limits
abbrev pub tried : Meaning → State → Call → Effect → Response × State
tried m s c x =
    let n = size (settled m s c x.result) in
    cond (leb longest_record (length s.events)) (refused s RecordFull) (cond (ltb largest_form n) (refused s (Outgrown n)) (Ok tt, stepped m s c x.act x.gone x.result))

abbrev pub moving_now : Meaning → State → Leaf → Effect
moving_now m s l = moving (world_of m s) s.clock (suc s.issued) s.expression l

abbrev pub answered : Meaning → State → ℕ → ℕ → Option Pending → Response × State
answered m s k v None = refused s (NotStanding k)
answered m s k v (Some p) = cond (can_reply (handle_at m p) p.since s.clock v) (tried m s (Answer k v) (moving_now m s (reply k v))) (refused s (OutsideEveryWindow k))

abbrev pub passed : Meaning → State → ℕ → Option Pending → Response × State
passed m s d None = cond (ltb last_clock (s.clock + d)) (refused s (ClockEnd s.clock)) (Ok tt, waited m s d)
passed m s d (Some p) = refused s (Overdue p.ticket)

abbrev pub loaded_outcome : Meaning → State → Call → Response × State
loaded_outcome m s (Go n) = cond (ltb n (due_count s.expression)) (tried m s (Go n) (moving_now m s (due n))) (refused s (NoneDue (due_count s.expression)))
loaded_outcome m s (Answer k v) = answered m s k v (find (has_ticket k) (pending_calls s.expression))
loaded_outcome m s (Wait d) = cond (ltb 0 d && ltb 0 (due_count s.expression)) (refused s (DueFirst (due_count s.expression))) (passed m s d (find (late m (s.clock + d)) (pending_calls s.expression)))

-- what a call answers and leaves
abbrev pub outcome : Meaning → State → Call → Response × State
outcome m s c = cond s.loaded (loaded_outcome m s c) (refused s NotLoaded)
