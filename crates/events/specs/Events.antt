-- What the events of the code stand for. Assumes nothing.
use Rattle.runs.specs.States.{Entry}
use Rattle.events.specs.Acts.{act_of}
use Rattle.events.specs.declared.event.Event.{Event}

abbrev pub entry_of : Event → Entry
entry_of e = record { tick = e.clock; act = act_of e.act }
