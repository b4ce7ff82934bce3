-- When a transition may be made, and time may pass. Assumes nothing.
use Rattle.std.specs.Prelude.{◌≡◌, ℕ, ◌+◌, ◌<◌, ◌≤◌, true, List, length, Some, IfSome, Option, ◌==◌}
use Rattle.std.specs.List.{between, find, ContainsAt as Has}
use Rattle.orc.specs.Meaning.{Meaning, Lawful}
use Rattle.orc.specs.Expressions.{bytes, size}
use Rattle.orc.specs.Calls.{Pending, pending_calls}
use Rattle.orc.specs.Steps.{Act, Pass}
use Rattle.forms.specs.Reading.{expression_of}
use Rattle.forms.specs.Heads.{IsForm}
use Rattle.forms.specs.Pendings.{pending_of}
use Rattle.places.specs.Scans.{ticket_place}
use Rattle.places.specs.declared.stretch.Stretch.{Stretch}
use Rattle.places.specs.declared.tickets.Placed.{Placed}
use Rattle.steps.specs.Laws.{withdrawn_with}
use Rattle.runs.specs.declared.call.Call.{Call}
use Rattle.runs.specs.declared.call.Call.TheVariants.{Answer, Wait}
use Rattle.runs.specs.States.{State, world_of}
use Rattle.runs.specs.Outcomes.{Takes, settled, stepped, longest_record, largest_form, last_clock}

-- The call makes a transition with the act a, which withdraws the pending calls gone and leaves the form bs. There is room in
-- the record for its event.
pub record Move (m : Meaning) (s : State) (c : Call) (a : Act) (gone : List Pending) (bs : List ℕ) : Type 0 where
  pub loaded : s.loaded ≡ true
  pub takes : Takes m s c a gone (expression_of bs)
  pub room : length s.events < longest_record
  pub form : IsForm bs

-- It settles as bs', for which there is room in the run.
pub record MayBeMade (m : Meaning) (s : State) (c : Call) (a : Act) (gone : List Pending) (bs bs' : List ℕ) : Type 0 where
  pub move : Move m s c a gone bs
  pub settles : bs' ≡ bytes (settled m s c (expression_of bs))
  pub fits : size (settled m s c (expression_of bs)) ≤ largest_form

-- A stretch of the bytes, if there is one, is a form.
abbrev pub FormWithin : List ℕ → Option Stretch → Type 0
FormWithin bs q = IfSome q (λ r. (r.end ≤ length bs) × IsForm (between r.at r.end bs))

-- The first pending call with the ticket k, and its place in the form.
pub record StandsThere (s : State) (k : ℕ) (p : Placed) : Type 0 where
  pub place : ticket_place k s.expression ≡ Some p.place
  pub call : find (λ q. k == q.ticket) (pending_calls s.expression) ≡ Some (pending_of p.call)

-- The ticket k is that of a pending call, of the site; and the stretch q of the form bs, if there is one, is a form.
pub record NamesCall (s : State) (k site : ℕ) (bs : List ℕ) (q : Option Stretch) : Type 0 where
  pub call : Pending
  pub stands : Has (pending_calls s.expression) call
  pub has_ticket : call.ticket ≡ k
  pub has_site : call.site ≡ site
  pub ends : FormWithin bs q

-- The reply v to the ticket k makes a transition, with the act a. The stretch q of the form bs, if there is one, ends with it,
-- and it leaves the form bs'.
pub record ReplyStep (m : Meaning) (s : State) (k v site : ℕ) (a : Act) (bs : List ℕ) (q : Option Stretch) (bs' : List ℕ) : Type 0 where
  pub move : Move m s (Answer k v) a (withdrawn_with k bs q) bs'
  pub names : NamesCall s k site bs q

-- Some such reply may be made, and settles as bs'.
pub record MayBeAnswered (s : State) (k site : ℕ) (a : Act) (bs : List ℕ) (q : Option Stretch) (bs' : List ℕ) : Type 0 where
  pub meaning : Meaning
  pub laws : Lawful meaning
  pub value : ℕ
  pub left : List ℕ
  pub may : MayBeMade meaning s (Answer k value) a (withdrawn_with k bs q) left bs'
  pub names : NamesCall s k site bs q

-- The state s has become s' by any answer that makes this transition and settles as bs'.
abbrev pub AnsweredSo : State → State → ℕ → Act → List Pending → List ℕ → Type 0
AnsweredSo s s' k a gone bs' = (m : Meaning) → Lawful m → (v : ℕ) (bs : List ℕ) → MayBeMade m s (Answer k v) a gone bs bs' → s' ≡ stepped m s (Answer k v) a gone (expression_of bs)

-- In a loaded run time can pass, d ticks, and the clock can show it.
pub record CanPass (m : Meaning) (s : State) (d : ℕ) : Type 0 where
  pub loaded : s.loaded ≡ true
  pub passes : Pass (world_of m s) s.clock (s.clock + d) s.expression
  pub in_time : s.clock + d ≤ last_clock

-- It settles as bs'.
pub record MayBeWaited (m : Meaning) (s : State) (d : ℕ) (bs' : List ℕ) : Type 0 where
  pub can_pass : CanPass m s d
  pub settles : bs' ≡ bytes (settled m s (Wait d) s.expression)
