use Rattle.std.proofs.Common.{◌≡◌, map, sym, ap, ◌∙◌, rules}
use Rattle.std.specs.List.{find}
use Rattle.std.specs.Option.{option_map}
use Rattle.std.proofs.lemmas.Iterator.Consumers.{YieldsList-from_first}
use Rattle.std.proofs.lemmas.Iterator.Search.{find_from_yields_List}
use Rattle.places.specs.Scans.{placed_from}
use Rattle.places.specs.Tickets.{placed_of, placed_left}
use Rattle.runs.specs.Outcomes.{late}
use Rattle.engine.proofs.Late.{found_first}
use Rattle.engine.proofs.waiting.first_late.Goals as goal

pub returns : goal.returns
returns g c =
    let test = late (g.H.Host.meaning c.args.host.now) c.args.tick in
    let calls = placed_from c.args.whole.form.bytes.now 0 in
    let found : option_map placed_of c.find.result ≡ find (λ p. test p.call) calls =
    find_from_yields_List {s = c.pending_calls.result} (λ p. test p.call) c.find.new.self _ c.find.result c.find.ensures.ran (YieldsList-from_first placed_of placed_left calls c.pending_calls.ensures.placed) (λ x b q k. search rules) in
    let mapped : c.map.result ≡ option_map (λ p. p.call.ticket) (option_map placed_of c.find.result) = search rules in
    found_first test calls _ _ (mapped ∙ ap (option_map (λ p. p.call.ticket)) found) (sym (ap (map (λ p. p.call)) c.pending_calls.ensures.placed) ∙ c.pending_calls.ensures.all c.args.whole.is_form)
