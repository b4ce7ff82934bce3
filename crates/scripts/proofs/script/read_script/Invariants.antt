use Rattle.std.proofs.Common.{vec_items}
use Rattle.scripts.specs.Scripts.{Said}
use Rattle.scripts.proofs.Scripted.{texts}
use Rattle.scripts.proofs.script.read_script.Given as goal

-- the lines so far are at no fault, and their calls are these
abbrev pub invariant-loop-before : goal.invariant-loop-before
invariant-loop-before l = Said (texts l.line-items) l.before (vec_items l.calls)
