-- What comes of a run that is played in a caller's memory. Assumes nothing.
use Rattle.std.specs.Prelude.{◌≡◌, ℕ, List, Result}
use Rattle.formats.specs.declared.fault.Fault.{Fault}
use Rattle.formats.specs.Faults.{told}
use Rattle.sheets.specs.Format.{SheetRow, SheetOutcome}
use Rattle.runs.specs.declared.call.Call.{Call}
use Rattle.runs.specs.States.{State}
use Rattle.runs.specs.Outcomes.{Response}
use Rattle.plays.specs.Plays.{Plays}
use Rattle.reports.specs.Replies.{controller}
use Rattle.controllers.specs.declared.judgement.Judgement.{Judgement}
use Rattle.controllers.specs.declared.state.State.{State as Numbers}
use Rattle.controllers.specs.Told.{verdict_on}
use Rattle.controllers.specs.Orders.{Met}
use Rattle.controllers.specs.Shown.{numbers_of}
use Rattle.controllers.specs.Written.{Lent, Written}

-- A run begins with the file over the controller with the sheet, and plays the orders that are calls: they are a history of it, so that
-- its record, ended at its clock, is a timed trace of the goal of a file that is accepted. What each order met is noted, and what the
-- run then holds is written.
pub record Played (file sheet : List ℕ) (before after : Lent) (j : Judgement) (n : Numbers) : Type 0 where
  pub sheet_outcome : Result (List SheetRow) Fault
  pub sheet_judged : SheetOutcome sheet sheet_outcome
  pub file_judged : Result (Unit {0}) Fault
  pub file_told : j.file ≡ verdict_on told file_judged
  pub calls : List Call
  pub responses : List Response
  pub state : State
  pub plays : Plays (controller sheet_outcome) file calls file_judged responses state
  pub met : Met before.orders calls responses after.orders
  pub written : Written state before after
  pub numbers : n ≡ numbers_of state
