use Rattle.std.proofs.Common.{Some, None, sym, ◌∙◌}
use Rattle.std.proofs.lemmas.List.{set-get_or}
use Rattle.engine.specs.Stands.{state_of}
use Rattle.controllers.specs.Shown.{all_totals}
use Rattle.controllers.proofs.Laying.{laid_next}
use Rattle.controllers.proofs.totals.write_totals.Goals as goal
use Rattle.controllers.proofs.totals.write_totals.Goals.{in-Some, in_default}

pub loop-site-preserved : goal.loop-site-preserved
loop-site-preserved g c =
    let next = laid_next (all_totals (state_of c.args.run.now.plain)) c.args.totals.now c.loop-site.totals c.match-counted.totals c.loop-site.site in
    elim c.match-counted.branch [
      | in-Some w ↦ next (Some w.in-Some.totals) c.loop-site.invariant c.loop-site-test.true (sym w.in-Some.is ∙ c.counted.ensures) w.totals-is
      | in_default w ↦ next None c.loop-site.invariant c.loop-site-test.true (sym w.in_default.is ∙ c.counted.ensures) (w.totals-is ∙ set-get_or c.loop-site.totals c.loop-site.site _)
    ]
