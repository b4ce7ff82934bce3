use Rattle.std.proofs.Common.{ℕ, List, length, sym, subst₂, arith}
use Rattle.std.proofs.lemmas.Slice.{between_to_end}
use Rattle.forms.specs.Lengths.{Told}
use Rattle.forms.proofs.Telling.{told_behind}
use Rattle.forms.proofs.form.Form.behind.Goals as goal

pub invariant_of-result : goal.invariant_of-result
invariant_of-result c =
    let form = c.args.self in
    let bs = form.bytes.now in
    let at = c.args.at in
    record { told = subst₂ (λ (l ts : List ℕ). Told l ts) (sym (between_to_end bs at (length bs) (omega arith))) (sym c.lengths_from.ensures) (told_behind bs form.lengths.now form.told at c.requires) }
