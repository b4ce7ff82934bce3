use Rattle.std.proofs.Common.{◌≡◌, rules, ap, ◌∙◌}
use Rattle.std.specs.Option.{option_map}
use Rattle.places.specs.Scans.{placed_from, first_place}
use Rattle.places.specs.Tickets.{placed_of}
use Rattle.places.proofs.Placing.{first_place_found, place_is, found_is}
use Rattle.places.proofs.tickets.ticket_place.Goals as goal

first : (c : goal.After-map) → c.map.result ≡ first_place c.args.ticket (placed_from c.args.form.bytes.now 0)
first c =
    let j = c.args.ticket in
    let mapped : c.map.result ≡ option_map (λ p. p.place) (option_map placed_of c.first_with_ticket.result) = search rules in
    mapped ∙ ap (option_map (λ p. p.place)) c.first_with_ticket.ensures.first ∙ first_place_found j (placed_from c.args.form.bytes.now 0)

pub returns-clause-first : goal.returns-clause-first
returns-clause-first c = first c

pub returns-clause-place : goal.returns-clause-place
returns-clause-place c = place_is c.args.form.bytes.now c.args.ticket _ (first c)

pub returns-clause-found : goal.returns-clause-found
returns-clause-found c = found_is c.args.form.bytes.now c.args.ticket _ (first c)
