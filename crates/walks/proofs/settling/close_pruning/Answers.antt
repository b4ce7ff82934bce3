use Rattle.std.proofs.Common.{◌+◌, [], ◌∷◌, ◌++◌, sym, ap, ◌∙◌, subst, arith, rules}
use Rattle.std.specs.List.{between}
use Rattle.std.proofs.lemmas.List.{length-append}
use Rattle.walks.specs.Sets.{FreeIn}
use Rattle.orc.specs.Expressions.{bytes}
use Rattle.orc.specs.Variables.{free}
use Rattle.forms.specs.Reading.{expression_of}
use Rattle.forms.proofs.ReadBack.{read_back}
use Rattle.walks.specs.Contents.{content}
use Rattle.walks.proofs.Closing.{right_last, left_there, left_kept, pruning_right_stop, pruning_runs, pruning_bound}
use Rattle.walks.proofs.settling.close_pruning.Goals as goal

pub returns-then-not-stops_from : goal.returns-then-not-stops_from
unfolding bytes
returns-then-not-stops_from c = record {
  content = λ o f g a b known is.
      let l = content c.args.out.now in
      let x = c.args.variable in
      let goes_on = c.if-not-stops_from.ensures (o ++ (5 ∷ x ∷ bytes f)) g (length-append o (5 ∷ x ∷ bytes f) ∙ omega arith) (right_last l o (5 ∷ x ∷ []) (bytes f) (bytes g) is) in
      is ∙ ap (λ e. o ++ bytes e) (pruning_runs x f g goes_on);
  within = search rules;
}

pub returns-then-not-is_free : goal.returns-then-not-is_free
unfolding bytes
returns-then-not-is_free c = record {
  content = λ o f g a b known is.
      let l = content c.args.out.now in
      let x = c.args.variable in
      let stops = c.if-not-stops_from.ensures (o ++ (5 ∷ x ∷ bytes f)) g (length-append o (5 ∷ x ∷ bytes f) ∙ omega arith) (right_last l o (5 ∷ x ∷ []) (bytes f) (bytes g) is) in
      let left = left_there l o (5 ∷ x ∷ []) (bytes f) (bytes g) is c.args.start (c.args.start + c.width.result) c.args.middle a (omega (arith, c.width.ensures)) (omega (arith, c.width.ensures)) in
      let unbound = c.if-not-is_free.ensures (subst (FreeIn c.args.known.bits) (sym (ap expression_of (c.new-left.ensures ∙ ap (between (c.args.start + c.width.result) c.args.middle) c.as_slice.ensures ∙ left) ∙ read_back f)) known) ∙ ap (λ l. free x (expression_of l)) (c.new-left.ensures ∙ ap (between (c.args.start + c.width.result) c.args.middle) c.as_slice.ensures ∙ left) ∙ ap (free x) (read_back f) in
      c.keep_part.ensures.content ∙ left_kept l o (5 ∷ x ∷ []) (bytes f) (bytes g) is c.args.start (c.args.start + c.width.result) c.args.middle a (omega (arith, c.width.ensures)) (omega (arith, c.width.ensures)) ∙ ap (λ e. o ++ bytes e) (pruning_right_stop x f g stops unbound);
  within = search rules;
}

pub returns-else-not-is_free : goal.returns-else-not-is_free
unfolding bytes
returns-else-not-is_free c = record {
  content = λ o f g a b known is.
      let l = content c.args.out.now in
      let x = c.args.variable in
      let left = left_there l o (5 ∷ x ∷ []) (bytes f) (bytes g) is c.args.start (c.args.start + c.width.result) c.args.middle a (omega (arith, c.width.ensures)) (omega (arith, c.width.ensures)) in
      let bound = c.if-not-is_free.ensures (subst (FreeIn c.args.known.bits) (sym (ap expression_of (c.new-left.ensures ∙ ap (between (c.args.start + c.width.result) c.args.middle) c.as_slice.ensures ∙ left) ∙ read_back f)) known) ∙ ap (λ l. free x (expression_of l)) (c.new-left.ensures ∙ ap (between (c.args.start + c.width.result) c.args.middle) c.as_slice.ensures ∙ left) ∙ ap (free x) (read_back f) in
      is ∙ ap (λ e. o ++ bytes e) (pruning_bound x f g bound);
  within = search rules;
}
