use Rattle.std.proofs.Common.{◌∙◌, arith}
use Rattle.runs.proofs.Sizes.{due_fewer}
use Rattle.engine.specs.Stands.{state_of}
use Rattle.controllers.proofs.Telling.{told_whole, same_numbers}
use Rattle.controllers.proofs.state.State.of.Goals as goal

pub returns : goal.returns
returns g c =
    let s = state_of c.args.run.now.plain in
    let fits = c.args.run.now.plain.fits.3 in
    same_numbers c.clock.ensures
    (told_whole c.size.result c.count.result c.count.ensures (omega (arith, fits.0, c.size.ensures)) ∙ c.size.ensures)
    (told_whole c.due_count.result c.count-2.result c.count-2.ensures (omega (arith, due_fewer s.expression, fits.0, c.due_count.ensures)) ∙ c.due_count.ensures)
    (told_whole c.event_count.result c.count-3.result c.count-3.ensures (omega (arith, fits.1, c.event_count.ensures)) ∙ c.event_count.ensures)
