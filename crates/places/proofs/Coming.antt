-- The pending calls of a form, as an iterator gives them to whoever does not ask for their places. Assumes nothing.
use Rattle.std.proofs.Common.{map, length, ap}
use Rattle.std.specs.Iterator.{YieldsFirstBy}
use Rattle.std.proofs.lemmas.Iterator.{YieldsList}
use Rattle.std.proofs.lemmas.Iterator.Consumers.{YieldsList-from_shown}
use Rattle.forms.specs.Pendings.{pending_of}
use Rattle.places.specs.Tickets.{placed_of, placed_left, pendings_left}
use Rattle.places.specs.declared.tickets.PendingCalls.{PendingCalls}

-- the chain proof at which a search among them begins
pub YieldsList-from_pending_calls : (s : PendingCalls) → YieldsList (YieldsFirstBy placed_of placed_left) (λ p. pending_of p.call) s (pendings_left s)
YieldsList-from_pending_calls s =
    YieldsList-from_shown (YieldsFirstBy placed_of placed_left) (λ p. pending_of p.call) pendings_left (λ s t none. ap (λ ps. length (map (λ p. p.call) ps)) none.0) (λ s x t first. ap (map (λ p. p.call)) first) s
