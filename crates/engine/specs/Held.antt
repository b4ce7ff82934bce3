-- The state that the parts of a run stand for. Assumes nothing.
use Rattle.std.specs.Prelude.{◌≡◌, ℕ, List, [], map, is_some, Some, None, Option}
use Rattle.std.specs.Option.{option_map}
use Rattle.orc.specs.Expressions.{Definition}
use Rattle.orc.specs.Files.{file_bytes}
use Rattle.forms.specs.Reading.{expression_of}
use Rattle.files.specs.Contents.{file_of}
use Rattle.fixed.specs.declared.list.FixedList.{FixedList}
use Rattle.fixed.specs.Items.{items_of}
use Rattle.walks.specs.Contents.{Buffer, content}
use Rattle.runs.specs.States.{Entry, State}
use Rattle.events.specs.Events.{entry_of}
use Rattle.events.specs.declared.event.Event.{Event}
use Rattle.engine.specs.Tallies.{totals_at}
use Rattle.engine.specs.declared.table.Table.{Table}

-- a record in its memory: 512 events at most
abbrev pub Record : Type 0
Record = FixedList Event 512

-- what was recorded, the oldest event first
abbrev pub entries : Record → List Entry
entries r = map entry_of (items_of r)

-- the definitions of the file that is loaded, if one is
abbrev pub definitions_held : Option Buffer → List Definition
definitions_held None = []
definitions_held (Some file) = (file_of (content file)).definitions

-- what is loaded are the bytes of a file
abbrev pub WholeFile : Option Buffer → Type 0
WholeFile file = option_map (λ f. file_bytes (file_of (content f))) file ≡ option_map content file

-- The state of a run, by what it holds: the file that is loaded, if one is, its clock, its form, how many tickets it has
-- issued, its record and its totals.
abbrev pub held : Option Buffer → ℕ → Buffer → ℕ → Record → Table → State
held file clock form issued events table =
    record {
      loaded = is_some file;
      definitions = definitions_held file;
      clock = clock;
      expression = expression_of (content form);
      issued = issued;
      events = entries events;
      totals = totals_at table;
    }
