use Rattle.std.proofs.Common.{refl, ◌∙◌, arith, rules}
use Rattle.std.proofs.lemmas.Iterator.{YieldsList-from_range}
use Rattle.std.proofs.lemmas.Iterator.Search.{any_from_yields_List}
use Rattle.orc.specs.Meaning.{handle, reaches, within_reach}
use Rattle.walks.specs.Ages.{passes_at}
use Rattle.walks.proofs.Windows.{any_by_number}
use Rattle.walks.proofs.ages.within_reach.Goals as goal

pub returns : goal.returns
unfolding within_reach
returns g c =
    let windows = (handle (g.H.Host.meaning c.args.host.now) c.args.call.site c.args.call.value).windows in
    let test = reaches c.args.call.clock c.args.tick in
    any_from_yields_List (passes_at test windows) _ _ _ c.any.ensures.ran (YieldsList-from_range 0 _ _ refl (omega (arith, c.window_count.ensures))) (search rules)
    ∙ any_by_number test windows
