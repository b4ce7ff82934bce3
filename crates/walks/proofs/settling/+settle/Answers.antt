use Rattle.std.proofs.Common.{[], ◌∷◌, ◌++◌, not, ◌&&◌, ◌||◌, eqb, length, sym, ap, ap₂, ◌∙◌, inl, inr, arith, rules}
use Rattle.std.proofs.lemmas.List.{length-append}
use Rattle.orc.specs.Expressions.{bytes}
use Rattle.orc.specs.Variables.{free}
use Rattle.orc.specs.Simplified.{simplified}
use Rattle.orc.specs.Calls.{lapsed}
use Rattle.forms.specs.Heads.{expression}
use Rattle.walks.specs.Contents.{content}
use Rattle.walks.proofs.Sizes.{size_positive}
use Rattle.walks.proofs.Frees.{free_parallel, free_pruning}
use Rattle.walks.proofs.Settled.{settled_alone, parallel_left_stop, settled_parallel, sequential_left_stop, settled_sequential, settled_pruning, settled_reached, settled_lapsed, left_behind, left_length, cut_back, right_behind}
use Rattle.walks.proofs.settling.+settle.Goals as goal

pub returns-in-Stop : goal.returns-in-Stop
unfolding bytes free
returns-in-Stop g t c =
    let m = g.H.Host.meaning c.args.host.now in
    let o = content c.args.out.now in
    let is = settled_alone m c.args.tick c.head_of.result (inl c.in-Stop.is) c.head_of.ensures.expression in
    record {
      content = c.add.ensures.content ∙ ap (λ e. o ++ bytes e) (c.in-Stop.ensures.expression ∙ is);
      within = search rules;
      free = λ x small. c.none.ensures x ∙ ap (free x) (c.in-Stop.ensures.expression ∙ is);
    }

pub returns-in-SiteCall : goal.returns-in-SiteCall
unfolding bytes free
returns-in-SiteCall g t c =
    let m = g.H.Host.meaning c.args.host.now in
    let o = content c.args.out.now in
    let is = settled_alone m c.args.tick c.head_of.result (inr (inl (_, _, c.in-SiteCall.is))) c.head_of.ensures.expression in
    record {
      content = c.put_call.ensures.content ∙ ap (λ e. o ++ bytes e) (c.in-SiteCall.ensures.expression ∙ is);
      within = search rules;
      free = λ x small. c.of.ensures x small ∙ ap (free x) (c.in-SiteCall.ensures.expression ∙ is);
    }

pub returns-in-DefinitionCall : goal.returns-in-DefinitionCall
unfolding bytes free
returns-in-DefinitionCall g t c =
    let m = g.H.Host.meaning c.args.host.now in
    let o = content c.args.out.now in
    let is = settled_alone m c.args.tick c.head_of.result (inr (inr (_, _, c.in-DefinitionCall.is))) c.head_of.ensures.expression in
    record {
      content = c.put_call-in-DefinitionCall.ensures.content ∙ ap (λ e. o ++ bytes e) (c.in-DefinitionCall.ensures.expression ∙ is);
      within = search rules;
      free = λ x small. c.of-in-DefinitionCall.ensures x small ∙ ap (free x) (c.in-DefinitionCall.ensures.expression ∙ is);
    }

pub returns-then-stops_from : goal.returns-then-stops_from
returns-then-stops_from g t c =
    let m = g.H.Host.meaning c.args.host.now in
    let o = content c.args.out.now in
    let f = simplified (lapsed m c.args.tick (expression c.in-Parallel.f)) in
    let right = simplified (lapsed m c.args.tick (expression c.in-Parallel.g)) in
    let first = c.add-in-Parallel.ensures.content in
    let second = c.settle-left.ensures.content in
    let stops = c.if-stops_from.ensures (o ++ (3 ∷ [])) f (length-append o (3 ∷ []) ∙ omega arith) (left_behind o (3 ∷ []) (bytes f) _ _ first second) in
    let back = cut_back o (3 ∷ []) (bytes f) _ _ first second (content c.truncate.new.self) _ c.len-start.ensures.count c.truncate.ensures in
    record {
      content = c.settle.ensures.content ∙ ap (λ l. l ++ bytes right) back ∙ ap (λ e. o ++ bytes e) (parallel_left_stop m c.args.tick _ _ c.in-Parallel.ensures.expression stops);
      within = omega (arith, ap length back, c.settle.ensures.within, c.in-Parallel.ensures.sized);
      free = λ x small. c.settle.ensures.free x small ∙ ap (free x) (parallel_left_stop m c.args.tick _ _ c.in-Parallel.ensures.expression stops);
    }

pub returns-else-stops_from : goal.returns-else-stops_from
unfolding bytes
returns-else-stops_from g t c =
    let m = g.H.Host.meaning c.args.host.now in
    let o = content c.args.out.now in
    let f = simplified (lapsed m c.args.tick (expression c.in-Parallel.f)) in
    let right = simplified (lapsed m c.args.tick (expression c.in-Parallel.g)) in
    let first = c.add-in-Parallel.ensures.content in
    let second = c.settle-left.ensures.content in
    let runs = c.if-stops_from.ensures (o ++ (3 ∷ [])) f (length-append o (3 ∷ []) ∙ omega arith) (left_behind o (3 ∷ []) (bytes f) _ _ first second) in
    let long = left_length o (3 ∷ []) (bytes f) _ _ first second in
    record {
      content =
          c.close_parallel.ensures.content o f right (omega arith) (omega arith) (sym runs) (right_behind o (3 ∷ []) (bytes f) _ _ first second (bytes right) _ c.settle-right.ensures.content)
          ∙ ap (λ e. o ++ bytes e) (settled_parallel m c.args.tick _ _ c.in-Parallel.ensures.expression);
      within = search rules;
      free = λ x small.
          c.and.ensures x ∙ ap₂ ◌||◌ (c.settle-left.ensures.free x small) (c.settle-right.ensures.free x small) ∙ sym (free_parallel x f right)
          ∙ ap (free x) (settled_parallel m c.args.tick _ _ c.in-Parallel.ensures.expression);
    }

pub returns-then-stops_from-2 : goal.returns-then-stops_from-2
unfolding bytes free
returns-then-stops_from-2 g t c =
    let m = g.H.Host.meaning c.args.host.now in
    let x = c.in-Sequential.x in
    let o = content c.args.out.now in
    let f = simplified (lapsed m c.args.tick (expression c.in-Sequential.f)) in
    let first = c.add-in-Sequential.ensures.content in
    let second = c.settle-left-in-Sequential.ensures.content in
    let stops = c.if-stops_from-2.ensures (o ++ (4 ∷ x ∷ [])) f (length-append o (4 ∷ x ∷ []) ∙ omega arith) (left_behind o (4 ∷ x ∷ []) (bytes f) _ _ first second) in
    let back = cut_back o (4 ∷ x ∷ []) (bytes f) _ _ first second (content c.truncate-then-stops_from-2.new.self) _ c.len-start.ensures.count c.truncate-then-stops_from-2.ensures in
    record {
      content = c.add-then-stops_from-2.ensures.content ∙ ap (λ l. l ++ (0 ∷ [])) back ∙ ap (λ e. o ++ bytes e) (sequential_left_stop m c.args.tick _ _ _ c.in-Sequential.ensures.expression stops);
      within = omega (arith, ap length back, c.add-then-stops_from-2.ensures.len, c.in-Sequential.ensures.sized);
      free = λ y small. c.none-then-stops_from-2.ensures y ∙ ap (free y) (sequential_left_stop m c.args.tick _ _ _ c.in-Sequential.ensures.expression stops);
    }

pub returns-else-stops_from-2 : goal.returns-else-stops_from-2
unfolding bytes free
returns-else-stops_from-2 g t c =
    let m = g.H.Host.meaning c.args.host.now in
    let x = c.in-Sequential.x in
    let o = content c.args.out.now in
    let f = simplified (lapsed m c.args.tick (expression c.in-Sequential.f)) in
    let right = simplified (lapsed m c.args.tick (expression c.in-Sequential.g)) in
    let first = c.add-in-Sequential.ensures.content in
    let second = c.settle-left-in-Sequential.ensures.content in
    let runs = c.if-stops_from-2.ensures (o ++ (4 ∷ x ∷ [])) f (length-append o (4 ∷ x ∷ []) ∙ omega arith) (left_behind o (4 ∷ x ∷ []) (bytes f) _ _ first second) in
    record {
      content = right_behind o (4 ∷ x ∷ []) (bytes f) _ _ first second (bytes right) _ c.settle-right-in-Sequential.ensures.content ∙ ap (λ e. o ++ bytes e) (settled_sequential m c.args.tick _ _ _ c.in-Sequential.ensures.expression runs);
      within = search rules;
      free = λ y small.
          c.and-in-Sequential.ensures y ∙ ap₂ ◌||◌ (c.settle-left-in-Sequential.ensures.free y small) (c.without.ensures y small ∙ ap (λ b. not (eqb y x) && b) (c.settle-right-in-Sequential.ensures.free y small))
          ∙ ap (free y) (settled_sequential m c.args.tick _ _ _ c.in-Sequential.ensures.expression runs);
    }

pub returns-in-Pruning : goal.returns-in-Pruning
unfolding bytes
returns-in-Pruning g t c =
    let m = g.H.Host.meaning c.args.host.now in
    let x = c.in-Pruning.x in
    let o = content c.args.out.now in
    let f = simplified (lapsed m c.args.tick (expression c.in-Pruning.f)) in
    let right = simplified (lapsed m c.args.tick (expression c.in-Pruning.g)) in
    let first = c.add-in-Pruning.ensures.content in
    let second = c.settle-left-in-Pruning.ensures.content in
    let long = left_length o (5 ∷ x ∷ []) (bytes f) _ _ first second in
    record {
      content =
          c.close_pruning.ensures.content o f right (omega arith) (omega arith) c.settle-left-in-Pruning.ensures.free (right_behind o (5 ∷ x ∷ []) (bytes f) _ _ first second (bytes right) _ c.settle-right-in-Pruning.ensures.content)
          ∙ ap (λ e. o ++ bytes e) (settled_pruning m c.args.tick _ _ _ c.in-Pruning.ensures.expression);
      within = search rules;
      free = λ y small.
          c.and-in-Pruning.ensures y ∙ ap₂ ◌||◌ (c.without-in-Pruning.ensures y small ∙ ap (λ b. not (eqb y x) && b) (c.settle-left-in-Pruning.ensures.free y small)) (c.settle-right-in-Pruning.ensures.free y small)
          ∙ sym (free_pruning y x f right) ∙ ap (free y) (settled_pruning m c.args.tick _ _ _ c.in-Pruning.ensures.expression);
    }

pub returns-then-within_reach : goal.returns-then-within_reach
unfolding bytes free
returns-then-within_reach g t c =
    let o = content c.args.out.now in
    let is = settled_reached (g.H.Host.meaning c.args.host.now) c.args.tick _ _ _ _ c.in-Pending.ensures.expression c.if-within_reach.ensures in
    record {
      content = c.add-then-within_reach.ensures.content ∙ ap (λ l. o ++ l) c.to_bytes.ensures ∙ ap (λ e. o ++ bytes e) (c.in-Pending.ensures.expression ∙ is);
      within = search rules;
      free = λ x small. c.none-then-within_reach.ensures x ∙ ap (free x) (c.in-Pending.ensures.expression ∙ is);
    }

pub returns-else-within_reach : goal.returns-else-within_reach
unfolding bytes free
returns-else-within_reach g t c =
    let o = content c.args.out.now in
    let is = settled_lapsed (g.H.Host.meaning c.args.host.now) c.args.tick _ _ _ _ c.in-Pending.ensures.expression c.if-within_reach.ensures in
    record {
      content = c.add-in-Pending.ensures.content ∙ ap (λ e. o ++ bytes e) is;
      within = search rules;
      free = λ x small. c.none-in-Pending.ensures x ∙ ap (free x) is;
    }
