-- What a run holds. Assumes nothing.
use Rattle.std.specs.Prelude.{ℕ, Bool, true, false, List, []}
use Rattle.orc.specs.Meaning.{Meaning}
use Rattle.orc.specs.Expressions.{Expression, stop, Definition, World}
use Rattle.orc.specs.Simplified.{simplified}
use Rattle.orc.specs.Steps.{Act, called, inner, out}
use Rattle.orc.specs.Files.{File}
use Rattle.runs.specs.declared.event.Kind.{Kind}
use Rattle.runs.specs.declared.event.Kind.TheVariants.{Called, Inner, Out}

-- a recorded event: the clock when it happened, and the act
pub record Entry : Type 0 where
  pub tick : ℕ
  pub act : Act

-- What is read of an event beside its tick: its kind, a number and a value. The number is the site of a call, and 0 for
-- any other event; the value is the one that the site was called with or that was published, and 0 for an inner step.
pub record Seen : Type 0 where
  pub kind : Kind
  pub number : ℕ
  pub value : ℕ

abbrev pub shows : Act → Seen
shows (called s v) = record { kind = Called; number = s; value = v }
shows inner = record { kind = Inner; number = 0; value = 0 }
shows (out v) = record { kind = Out; number = 0; value = v }

-- Tickets of one site, counted by what became of them: called, when they were issued; answered; withdrawn, by a pruning
-- whose right part ended; lapsed, when no window reached them any more. Those that stand are no counter: they are the
-- pending calls of the expression.
pub record Totals : Type 0 where
  pub called : ℕ
  pub answered : ℕ
  pub withdrawn : ℕ
  pub lapsed : ℕ

abbrev pub no_totals : Totals
no_totals = record { called = 0; answered = 0; withdrawn = 0; lapsed = 0 }

-- A run is loaded if its file was accepted. It holds the file's definitions, the clock, the expression that is left of the
-- goal, how many tickets it has issued, its record, the oldest event first, and the totals by site.
pub record State : Type 0 where
  pub loaded : Bool
  pub definitions : List Definition
  pub clock : ℕ
  pub expression : Expression
  pub issued : ℕ
  pub events : List Entry
  pub totals : ℕ → Totals

-- what the expression runs in
abbrev pub world_of : Meaning → State → World
world_of m s = record { meaning = m; definitions = s.definitions }

-- what begin leaves for an accepted file
abbrev pub begun : File → State
begun file = record { loaded = true; definitions = file.definitions; clock = 0; expression = simplified file.goal; issued = 0; events = []; totals = λ site. no_totals }

-- what begin leaves for a refused file
abbrev pub unloaded : State
unloaded = record { loaded = false; definitions = []; clock = 0; expression = stop; issued = 0; events = []; totals = λ site. no_totals }
