use Rattle.std.proofs.Common.{◌+◌, [], ◌∷◌, ◌++◌, ap, ◌∙◌, arith, rules}
use Rattle.std.proofs.lemmas.List.{length-append}
use Rattle.orc.specs.Expressions.{bytes}
use Rattle.walks.specs.Contents.{content}
use Rattle.walks.proofs.Closing.{right_last, left_kept, parallel_right_stop, parallel_both}
use Rattle.walks.proofs.settling.close_parallel.Goals as goal

pub returns-then-stops_from : goal.returns-then-stops_from
unfolding bytes
returns-then-stops_from c = record {
  content = λ o f g a b left is.
      let l = content c.args.out.now in
      let stops = c.if-stops_from.ensures (o ++ (3 ∷ bytes f)) g (length-append o (3 ∷ bytes f) ∙ omega arith) (right_last l o (3 ∷ []) (bytes f) (bytes g) is) in
      c.keep_part.ensures.content ∙ left_kept l o (3 ∷ []) (bytes f) (bytes g) is c.args.start (c.args.start + c.width.result) c.args.middle a (omega (arith, c.width.ensures)) (omega (arith, c.width.ensures)) ∙ ap (λ e. o ++ bytes e) (parallel_right_stop f g left stops);
  within = search rules;
}

pub returns-else-stops_from : goal.returns-else-stops_from
unfolding bytes
returns-else-stops_from c = record {
  content = λ o f g a b left is.
      let l = content c.args.out.now in
      let goes_on = c.if-stops_from.ensures (o ++ (3 ∷ bytes f)) g (length-append o (3 ∷ bytes f) ∙ omega arith) (right_last l o (3 ∷ []) (bytes f) (bytes g) is) in
      is ∙ ap (λ e. o ++ bytes e) (parallel_both f g left goes_on);
  within = search rules;
}
