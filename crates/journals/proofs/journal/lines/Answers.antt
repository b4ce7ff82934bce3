use Rattle.std.proofs.Common.{rules, ◌∙◌}
use Rattle.std.proofs.lemmas.Result.{IfOk-weaker}
use Rattle.std.proofs.lemmas.Iterator.{YieldsList-from_map_by, YieldsList-from_zip, YieldsList-from_slice}
use Rattle.std.proofs.lemmas.Iterator.Consumers.{map_from_collect}
use Rattle.journals.specs.Journals.{pair_of}
use Rattle.std.proofs.lemmas.List.{map-id}
use Rattle.journals.proofs.journal.lines.Goals as goal

pub returns : goal.returns
returns c =
    IfOk-weaker c.collect.result _ _ (λ w is. is ∙ map-id _)
    (map_from_collect {v = pair_of} c.collect.result c.collect.ensures.ran
    (YieldsList-from_map_by _ pair_of (λ p. p)
    (YieldsList-from_zip (YieldsList-from_slice c.args.calls.now (search rules)) (YieldsList-from_slice c.args.responses.now (search rules))) c.map.ensures.closure (λ x r q called. search rules)))
