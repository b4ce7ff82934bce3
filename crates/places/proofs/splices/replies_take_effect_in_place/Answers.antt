use Rattle.places.proofs.Splicing.{replies_take_effect}
use Rattle.places.proofs.splices.replies_take_effect_in_place.Goals as goal

pub returns : goal.returns
returns c = replies_take_effect
