use Rattle.std.proofs.Common.{rules, tests}
use Rattle.std.proofs.lemmas.Iterator.{YieldsList-from_slice}
use Rattle.std.proofs.lemmas.Iterator.Search.{find_from_yields_List}
use Rattle.hosts.proofs.Rows.{test, held}
use Rattle.hosts.proofs.sheet.Sheet.holder.Goals as goal

pub returns : goal.returns
returns c =
    let rows = c.as_slice.result.now in
    rw (← c.as_slice.ensures) (held c.args.site c.args.value rows c.find.result
    (find_from_yields_List (test c.args.site c.args.value) _ _ c.find.result c.find.ensures.ran (YieldsList-from_slice rows cc) (λ x b q k. search (rules, tests))))
