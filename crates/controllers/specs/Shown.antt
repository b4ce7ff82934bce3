-- What a run holds, in numbers. Assumes nothing.
use Rattle.std.specs.Prelude.{ℕ, List, length, map}
use Rattle.std.specs.List.{range_with_len}
use Rattle.orc.specs.Expressions.{size}
use Rattle.orc.specs.Calls.{due_count}
use Rattle.runs.specs.declared.event.Kind.{Kind}
use Rattle.runs.specs.declared.event.Kind.TheVariants.{Called, Inner, Out}
use Rattle.runs.specs.States.{Entry, shows, State}
use Rattle.runs.specs.Tickets.{standing_at}
use Rattle.controllers.specs.declared.event.Event.{Event}
use Rattle.controllers.specs.declared.totals.Totals.{Totals}
use Rattle.controllers.specs.declared.state.State.{State as Numbers}

-- the number of a kind of event
abbrev pub kind_number : Kind → ℕ
kind_number Called = 0
kind_number Inner = 1
kind_number Out = 2

-- a recorded event: its clock, and what is read of its act
abbrev pub event_of : Entry → Event
event_of x = record { clock = x.tick; kind = kind_number (shows x.act).kind; number = (shows x.act).number; value = (shows x.act).value }

-- the events of a record, the oldest first
abbrev pub events_of : State → List Event
events_of s = map event_of s.events

-- the totals of a site: the four counts, and how many of its tickets stand
abbrev pub totals_of : State → ℕ → Totals
totals_of s site =
    record {
      called = (s.totals site).called;
      answered = (s.totals site).answered;
      withdrawn = (s.totals site).withdrawn;
      lapsed = (s.totals site).lapsed;
      standing = standing_at site s.expression;
    }

-- those of the 32 sites, site 0 first
unfoldable pub all_totals : State → List Totals
all_totals s = map (totals_of s) (range_with_len 0 32)

-- the clock, the size of the form, how many calls are due, and how many events are recorded
abbrev pub numbers_of : State → Numbers
numbers_of s = record { clock = s.clock; size = size s.expression; due = due_count s.expression; events = length s.events }
