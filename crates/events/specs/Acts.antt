-- What the acts of the code stand for. Assumes nothing.
use Rattle.orc.specs.Steps.{Act, called, inner, out}
use Rattle.events.specs.declared.act.Act.{Act as Shown}
use Rattle.events.specs.declared.act.Act.TheVariants.{Called, Inner, Out}

abbrev pub act_of : Shown → Act
act_of (Called s v) = called s v
act_of Inner = inner
act_of (Out v) = out v
