use Rattle.std.proofs.Common.{◌≡◌, get_or, replicate, ap, ◌∙◌}
use Rattle.engine.specs.Tallies.{totals_of, empty_line}
use Rattle.engine.proofs.Recorded.{same_everywhere}
use Rattle.engine.proofs.table.Table.new.Goals as goal

pub returns : goal.returns
returns c =
    let d = c.default.ensures in
    let empty : c.default.result ≡ empty_line = λ i. record { called = d.0 i; answered = d.1.0 i; withdrawn = d.1.1.0 i; lapsed = d.1.1.1 i } in
    λ site. ap (λ l. totals_of (get_or (replicate 32 l) site empty_line)) empty ∙ ap totals_of (same_everywhere 32 site empty_line)
