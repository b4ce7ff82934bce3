-- Histories: begin, and then any calls, accepted and refused. Assumes nothing.
use Rattle.std.specs.Prelude.{Bool, List, [], ◌∷◌, ◌++◌}
use Rattle.orc.specs.Meaning.{Meaning}
use Rattle.orc.specs.Calls.{Pending}
use Rattle.runs.specs.declared.call.Call.{Call}
use Rattle.runs.specs.States.{Totals, no_totals, State}
use Rattle.runs.specs.Tickets.{Tickets, no_tickets, counted, added}
use Rattle.runs.specs.Outcomes.{Response, stepped_tickets, waited_tickets, Outcome, refuses, takes, passes}

-- History m s₀ cs rs s: from s₀ on the calls cs are made, one after the other; they are answered by rs and leave s.
pub data History (m : Meaning) (s₀ : State) : List Call → List Response → State → Type 0 where
  start : History m s₀ [] [] s₀
  after : {cs : List Call} {rs : List Response} {s : State} {c : Call} {r : Response} {s' : State} → History m s₀ cs rs s → Outcome m s c r s' → History m s₀ (cs ++ (c ∷ [])) (rs ++ (r ∷ [])) s'

-- the tickets that a call issued and ended
abbrev pub tickets : {m : Meaning} {s s' : State} {c : Call} {r : Response} → Outcome m s c r s' → Tickets
tickets (refuses h) = no_tickets
tickets {m} {s} (takes {c} {a} {gone} {e} l t h k) = stepped_tickets m s c a gone e
tickets {m} {s} (passes {d} l p h) = waited_tickets m s d

-- how many tickets that pass a test were issued and ended over a history, by cause
abbrev pub tally : {m : Meaning} {s₀ s : State} {cs : List Call} {rs : List Response} → (Pending → Bool) → History m s₀ cs rs s → Totals
tally f start = no_totals
tally f (after h o) = added (tally f h) (counted f (tickets o))
