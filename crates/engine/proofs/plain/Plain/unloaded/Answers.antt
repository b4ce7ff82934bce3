use Rattle.std.proofs.Common.{None, map, refl, ap}
use Rattle.events.specs.Events.{entry_of}
use Rattle.runs.proofs.Keeping.{kept_unloaded}
use Rattle.engine.proofs.Given.{given}
use Rattle.engine.proofs.Beginning.{unloaded_state, unloaded_form}
use Rattle.engine.proofs.plain.Plain.unloaded.Goals as goal

pub invariant_of-result : goal.invariant_of-result
invariant_of-result c =
    let form = c.buffer_of.result in
    let is = unloaded_state form c.new.result c.new-2.result (ap (map entry_of) c.new.ensures) c.new-2.ensures c.buffer_of.ensures in
    let it = given None 0 form 0 c.new.result c.new-2.result is kept_unloaded refl (unloaded_form form c.buffer_of.ensures) in
    record { whole_file = it.0; whole_form = it.1; formals = it.2; bodies = it.3; fits = it.4 }

pub returns : goal.returns
returns c = unloaded_state c.buffer_of.result c.new.result c.new-2.result (ap (map entry_of) c.new.ensures) c.new-2.ensures c.buffer_of.ensures
