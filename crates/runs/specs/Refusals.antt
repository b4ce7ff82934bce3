-- What is told of each refusal of a call. Assumes nothing.
use Rattle.std.specs.Prelude.{Bool, true, false, codes}
use Rattle.verdicts.specs.Verdicts.{Told}
use Rattle.runs.specs.declared.refusal.Refusal.{Refusal}
use Rattle.runs.specs.declared.refusal.Refusal.TheVariants.{NotLoaded, NoneDue, NotStanding, OutsideEveryWindow, DueFirst, Overdue, ClockEnd, Outgrown, RecordFull}

abbrev pub told : Refusal → Told
told NotLoaded = record { number = 21; place = 0; name = codes "Not loaded" }
told (NoneDue due) = record { number = 22; place = due; name = codes "None due" }
told (NotStanding ticket) = record { number = 23; place = ticket; name = codes "Not standing" }
told (OutsideEveryWindow ticket) = record { number = 24; place = ticket; name = codes "Outside every window" }
told (DueFirst due) = record { number = 25; place = due; name = codes "Due first" }
told (Overdue ticket) = record { number = 26; place = ticket; name = codes "Overdue" }
told (ClockEnd clock) = record { number = 27; place = clock; name = codes "Clock end" }
told (Outgrown size) = record { number = 28; place = size; name = codes "Outgrown" }
told RecordFull = record { number = 29; place = 512; name = codes "Record full" }

-- A refusal is a limit if it comes only of what a run can hold: its clock, the size of its form, the length of its record.
-- Every other one says that the call asks for what cannot happen.
abbrev pub is_limit : Refusal → Bool
is_limit NotLoaded = false
is_limit (NoneDue due) = false
is_limit (NotStanding ticket) = false
is_limit (OutsideEveryWindow ticket) = false
is_limit (DueFirst due) = false
is_limit (Overdue ticket) = false
is_limit (ClockEnd clock) = true
is_limit (Outgrown size) = true
is_limit RecordFull = true
