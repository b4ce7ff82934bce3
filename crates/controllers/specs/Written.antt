-- What is written into memory that a caller lends. Assumes nothing.
use Rattle.std.specs.Prelude.{◌≡◌, ℕ, List, ◌++◌, length, take, drop}
use Rattle.orc.specs.Expressions.{bytes}
use Rattle.runs.specs.States.{State}
use Rattle.controllers.specs.declared.order.Order.{Order}
use Rattle.controllers.specs.declared.event.Event.{Event}
use Rattle.controllers.specs.declared.totals.Totals.{Totals}
use Rattle.controllers.specs.Shown.{events_of, all_totals}

-- xs written over ys from its beginning, as far as there is room; what lies behind stays
abbrev pub laid : {X : Type 0} → List X → List X → List X
laid xs ys = take (length ys) xs ++ drop (length xs) ys

-- what a caller lends: calls that are ordered, and room for a form, events and totals
pub record Lent : Type 0 where
  pub orders : List Order
  pub form : List ℕ
  pub events : List Event
  pub totals : List Totals

-- the form, the events and the totals of a state are written
pub record Written (s : State) (before after : Lent) : Type 0 where
  pub form : after.form ≡ laid (bytes s.expression) before.form
  pub events : after.events ≡ laid (events_of s) before.events
  pub totals : after.totals ≡ laid (all_totals s) before.totals
