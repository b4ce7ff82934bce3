use Rattle.places.proofs.Placing.{placed_within}
use Rattle.places.proofs.tickets.pending_calls_from.Goals as goal

pub returns-clause-within : goal.returns-clause-within
returns-clause-within c = rw c.as_bytes.ensures (placed_within c.args.form.bytes.now c.args.from)
