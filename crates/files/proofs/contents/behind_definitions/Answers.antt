use Rattle.std.proofs.Common.{◌≡◌, ◌∷◌, [], drop, length, length-append, refl, sym, ap, ◌∙◌, arith, rules}
use Rattle.std.proofs.iter.Yields.{nat_range_steps}
use Rattle.std.proofs.lemmas.Fn.{fold_over}
use Rattle.std.proofs.lemmas.Iterator.{YieldsList-from_range}
use Rattle.std.proofs.lemmas.List.FromFn.{length-range_with_len}
use Rattle.files.specs.Contents.{behind_definition, behind_definitions}
use Rattle.files.proofs.Numbers.{behind_more}
use Rattle.files.proofs.contents.behind_definitions.Goals as goal

pub returns : goal.returns
unfolding behind_definitions
returns c =
    let rest = drop 1 c.args.file.now in
    fold_over nat_range_steps _ _ (λ ys left. left.now ≡ behind_definitions (length ys) rest) _
    (λ ys a x b q is called.
    let one_more : b.now ≡ behind_definition a.now = search rules in
    (one_more ∙ ap behind_definition is ∙ sym (behind_more (length ys) rest) ∙ ap (λ n. behind_definitions n rest) (sym (length-append ys (x ∷ []))), refl))
    (record { start = 0; end = c.args.count }) _ c.bytes_from.result c.fold.result (YieldsList-from_range 0 c.args.count c.args.count refl (omega arith)).runs c.bytes_from.ensures c.fold.ensures.ran
    ∙ ap (λ n. behind_definitions n rest) (length-range_with_len 0 c.args.count)
