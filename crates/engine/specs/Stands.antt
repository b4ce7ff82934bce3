-- The state of a run. Assumes nothing.
use Rattle.std.specs.Prelude.{◌≡◌, OnErr}
use Rattle.runs.specs.States.{State}
use Rattle.runs.specs.Outcomes.{Response}
use Rattle.engine.specs.Held.{held}
use Rattle.engine.specs.declared.plain.Plain.{Plain}

abbrev pub state_of : Plain → State
state_of p = held p.file p.clock p.form p.issued p.events p.table

-- after a call that is refused, a run holds what it held before
abbrev pub KeptIfRefused : Response → Plain → Plain → Type 0
KeptIfRefused r before after = OnErr r (after ≡ before)
