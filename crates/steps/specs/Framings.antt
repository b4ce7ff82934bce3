-- What is written of a frame for the reply to a call within it. Assumes nothing.
use Rattle.std.specs.Prelude.{ℕ, ◌+◌, List, ◌∷◌, ◌++◌}
use Rattle.std.specs.List.{between}
use Rattle.orc.specs.Expressions.{bytes}
use Rattle.steps.specs.Instances.{instance}
use Rattle.steps.specs.declared.framed.Framed.{Framed}
use Rattle.steps.specs.declared.framed.Beside.{Beside}

-- the bytes of the frame before the call
abbrev pub before : Framed → List ℕ
before f = between f.frame.stretch.at f.place f.frame.form.bytes.now

-- and those behind it
abbrev pub behind : Framed → List ℕ
behind f = between (f.place + 12) f.frame.stretch.end f.frame.form.bytes.now

-- the frame with stop in place of the call
abbrev pub stopped : Framed → List ℕ
stopped f = before f ++ (0 ∷ behind f)

-- the same with a copy beside it, in parallel
abbrev pub beside : Beside → List ℕ
beside b = 3 ∷ (before b.call ++ (0 ∷ (behind b.call ++ bytes (instance b.copy))))
