use Rattle.std.proofs.Common.{◌+◌, ◌<◌, ◌≤◌, length, inl, inr, ⊎_elim, arith}
use Rattle.std.proofs.lemmas.Bool.{cases_lt}
use Rattle.std.proofs.lemmas.Result.{IfOk-weaker}
use Rattle.journals.proofs.lanes.drawn.Goals as goal

pub returns : goal.returns
returns g c =
    let lanes = length c.as_slice.result.now in
    let publications = length c.as_slice-2.result.now in
    ⊎_elim
    (λ (some : 0 < lanes + publications). IfOk-weaker c.picture.result _ _ (λ t drawn. inr drawn) (c.picture.ensures.drawn some))
    (λ (none : lanes + publications ≤ 0). IfOk-weaker c.picture.result _ _ (λ t quiet. inl quiet) (c.picture.ensures.quiet (omega (arith, none)) (omega (arith, none))))
    (cases_lt 0 (lanes + publications))
