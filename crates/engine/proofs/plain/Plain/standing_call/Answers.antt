use Rattle.std.proofs.Common.{rules}
use Rattle.engine.specs.Stands.{state_of}
use Rattle.engine.proofs.Transits.{stands_there}
use Rattle.engine.proofs.plain.Plain.standing_call.Goals as goal

pub returns : goal.returns
returns c =
    let p = c.args.self.now in
    let same = c.standing.ensures in
    let form = c.standing.result.is_form in
    let it = c.first_with_ticket.ensures in
    let found = it.found form in
    let place = it.place form in
    let call = it.call form in
    stands_there (state_of p) c.args.ticket c.first_with_ticket.result (search rules) (search rules) (search rules) it.ticket
