use Rattle.places.proofs.Seeking.{in_the_last}
use Rattle.places.proofs.due.+find.Goals as goal

pub returns-in-Err : goal.returns-in-Err
returns-in-Err t c = in_the_last c.args.bytes.now c.in-Both.parts.now c.in-Both.ensures c.args.n c.in-Err.first c.in-Err.ensures.0 c.in-Err.ensures.1 c.find.result (λ call. call.now) c.find.ensures
