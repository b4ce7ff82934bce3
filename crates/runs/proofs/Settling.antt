-- What a call leaves has the executions of what it was before lapsing and simplification. Assumes nothing.
use Rattle.std.proofs.Common.{ℕ, ◌+◌, List, le_refl}
use mathlib.Core.Logic.Iff
use Rattle.orc.specs.Meaning.{Meaning, Lawful}
use Rattle.orc.specs.Expressions.{Expression}
use Rattle.orc.specs.Simplified.{simplified}
use Rattle.orc.specs.Calls.{Pending, lapsed}
use Rattle.orc.specs.Steps.{Act, Pass}
use Rattle.orc.specs.Sound.{AllCanStand}
use Rattle.orc.specs.Laws.{SameExecutions}
use Rattle.orc.proofs.Alike.{simplification_keeps_executions, lapsing_keeps_executions, pass_stands}
use Rattle.runs.specs.declared.call.Call.{Call}
use Rattle.runs.specs.declared.call.Call.TheVariants.{Wait}
use Rattle.runs.specs.States.{State, world_of}
use Rattle.runs.specs.Outcomes.{Takes, by_go, by_answer, settled}
use Rattle.runs.specs.Bounds.{Holds}
use Rattle.runs.proofs.Holding.{all_stand}

module _ {m : Meaning} {s : State} (laws : Lawful m) (h : Holds m s) where
  lapsed_same : (n : ℕ) (e : Expression) → AllCanStand m n e → SameExecutions (world_of m s) n e (simplified (lapsed m n e))
  lapsed_same n e a ms u = Iff.trans (lapsing_keeps_executions (world_of m s) n n e (le_refl n) a ms u) (simplification_keeps_executions (world_of m s) h.keeps.definitions_kept.sound.closed n (lapsed m n e) ms u)

  pub settled_same : {c : Call} {a : Act} {gone : List Pending} {e : Expression} → Takes m s c a gone e → SameExecutions (world_of m s) s.clock e (settled m s c e)
  settled_same {e = e} (by_go st) = lapsed_same s.clock e (all_stand laws h st)
  settled_same {e = e} (by_answer st) = simplification_keeps_executions (world_of m s) h.keeps.definitions_kept.sound.closed s.clock e

  pub waited_same : (d : ℕ) → Pass (world_of m s) s.clock (s.clock + d) s.expression → SameExecutions (world_of m s) (s.clock + d) s.expression (settled m s (Wait d) s.expression)
  waited_same d p = lapsed_same (s.clock + d) s.expression (pass_stands (world_of m s) s.clock (s.clock + d) s.expression h.keeps.expression_kept.unbegun p)
