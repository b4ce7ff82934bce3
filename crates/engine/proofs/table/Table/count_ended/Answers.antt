use Rattle.std.proofs.Common.{map, refl, sym, ap, ◌∙◌, subst}
use Rattle.orc.specs.Calls.{pending_calls}
use Rattle.forms.specs.Heads.{expression}
use Rattle.forms.specs.Pendings.{pending_of}
use Rattle.places.specs.Tickets.{pendings_left}
use Rattle.engine.proofs.Counting.{LeftToCount, can_count, counted_first, passed_first, all_counted}
use Rattle.engine.proofs.table.Table.count_ended.Goals as goal

pub loop-placed-init : goal.loop-placed-init
loop-placed-init g c =
    let all = c.pending_calls-placed-items.ensures.all c.args.whole.is_form in (
      tt,
      tt,
      λ test decides room.
          subst (λ ps. LeftToCount test c.args.cause (pending_calls (expression c.args.whole.form)) ps c.args.self.now c.args.self.now) (sym (ap pendings_left c.into_iter-placed-iterator.ensures.into_iter_gives ∙ all)) (record { room = room; rest = λ site. refl }),
    )

pub count-requires : goal.count-requires
count-requires g c =
    let call = c.in-Some.placed.call in
    let met = ap (map (λ p. p.call)) c.in-Some.ensures.steps in
    let left = c.loop-placed.invariant.2 c.requires.room.0 c.requires.room.1 c.requires.room.2 in
    can_count c.requires.room.0 c.args.cause _ _ c.args.self.now c.loop-placed.self left (pending_of call) _ met (sym (c.requires.room.1 call _ c.if-ends.ensures))

pub loop-placed-preserved-then-ends : goal.loop-placed-preserved-then-ends
loop-placed-preserved-then-ends g c =
    let call = c.in-Some.placed.call in
    let met = ap (map (λ p. p.call)) c.in-Some.ensures.steps in (
      tt,
      tt,
      λ test decides room.
          counted_first test c.args.cause _ _ c.args.self.now c.loop-placed.self (c.loop-placed.invariant.2 test decides room) (pending_of call) _ met c.count.new.self (sym (decides call _ c.if-ends.ensures)) (c.count.ensures (pending_of call) refl),
    )

pub loop-placed-preserved : goal.loop-placed-preserved
loop-placed-preserved g c =
    let call = c.in-Some.placed.call in
    let met = ap (map (λ p. p.call)) c.in-Some.ensures.steps in (
      tt,
      tt,
      λ test decides room.
          passed_first test c.args.cause _ _ c.args.self.now c.loop-placed.self (c.loop-placed.invariant.2 test decides room) (pending_of call) _ met (sym (decides call _ c.if-ends.ensures)),
    )

pub returns : goal.returns
returns g c = λ test decides room.
    all_counted test c.args.cause _ _ c.args.self.now c.loop-placed.self (c.loop-placed.invariant.2 test decides room) (ap (map (λ p. p.call)) c.in-None.ensures.steps.0)
