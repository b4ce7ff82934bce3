use Rattle.std.proofs.Common.{rules, tests, sym, ◌∙◌}
use Rattle.std.proofs.lemmas.Iterator.{YieldsList-from_slice}
use Rattle.std.proofs.lemmas.Iterator.Search.{any_from_yields_List}
use Rattle.sheets.specs.Rows.{row_of}
use Rattle.hosts.specs.Meanings.{names}
use Rattle.hosts.proofs.Rows.{named}
use Rattle.hosts.proofs.sheet.SheetHost.knows.Goals as goal

pub returns : goal.returns
returns c =
    let rows = c.as_slice.result.now in
    rw (← c.as_slice.ensures)
    (any_from_yields_List (λ r. names c.args.site (row_of r)) _ _ _ c.any.ensures.ran (YieldsList-from_slice rows cc) (λ x b q k. search (rules, tests)) ∙ sym (named c.args.site rows))
