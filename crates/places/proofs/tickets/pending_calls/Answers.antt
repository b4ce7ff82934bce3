use Rattle.std.proofs.Common.{map, ap, ◌∙◌}
use Rattle.places.proofs.Placing.{pendings_are_all}
use Rattle.places.proofs.tickets.pending_calls.Goals as goal

pub returns-clause-all : goal.returns-clause-all
returns-clause-all c form = ap (map (λ p. p.call)) c.pending_calls_from.ensures.placed ∙ pendings_are_all c.args.form.bytes.now form
