use Rattle.std.proofs.Common.{◌≡◌, eqb, is_some, rules, ap, ◌∙◌}
use Rattle.std.specs.List.{find}
use Rattle.std.specs.Option.{option_map}
use Rattle.std.proofs.lemmas.Iterator.Consumers.{YieldsList-from_first}
use Rattle.std.proofs.lemmas.Iterator.Search.{find_from_yields_List}
use Rattle.places.specs.Scans.{Placed, placed_from}
use Rattle.places.specs.Tickets.{placed_of, placed_left}
use Rattle.places.proofs.Placing.{first_place_found, first_call_found, place_is, found_is, pendings_are_all}
use Rattle.places.proofs.tickets.first_with_ticket.Goals as goal

found : (c : goal.After-find) → option_map placed_of c.find.result ≡ find (λ p. eqb p.call.ticket c.args.ticket) (placed_from c.args.form.bytes.now 0)
found c = find_from_yields_List {s = c.pending_calls.result} (λ (p : Placed). eqb p.call.ticket c.args.ticket) c.find.new.self _ c.find.result c.find.ensures.ran (YieldsList-from_first placed_of placed_left (placed_from c.args.form.bytes.now 0) c.pending_calls.ensures.placed) (λ x b q k. search rules)

pub returns-clause-first : goal.returns-clause-first
returns-clause-first c = found c

pub returns-clause-place : goal.returns-clause-place
returns-clause-place c form =
    let bs = c.args.form.bytes.now in
    let same : option_map (λ p. p.place) c.find.result ≡ option_map (λ p. p.place) (option_map placed_of c.find.result) = search rules in
    same ∙ place_is bs c.args.ticket _ (ap (option_map (λ p. p.place)) (found c) ∙ first_place_found c.args.ticket (placed_from bs 0)) form

pub returns-clause-call : goal.returns-clause-call
returns-clause-call c form =
    let bs = c.args.form.bytes.now in
    let same : option_map (λ p. (placed_of p).call) c.find.result ≡ option_map (λ p. p.call) (option_map placed_of c.find.result) = search rules in
    same ∙ ap (option_map (λ p. p.call)) (found c) ∙ first_call_found c.args.ticket (placed_from bs 0) ∙ ap (find (λ q. eqb c.args.ticket q.ticket)) (pendings_are_all bs form)

pub returns-clause-found : goal.returns-clause-found
returns-clause-found c form =
    let bs = c.args.form.bytes.now in
    let same : is_some c.find.result ≡ is_some (option_map (λ p. p.place) (option_map placed_of c.find.result)) = search rules in
    same ∙ found_is bs c.args.ticket _ (ap (option_map (λ p. p.place)) (found c) ∙ first_place_found c.args.ticket (placed_from bs 0)) form
