use Rattle.places.proofs.Splicing.{due_calls_move}
use Rattle.places.proofs.splices.due_calls_move_in_place.Goals as goal

pub returns : goal.returns
returns c = due_calls_move
