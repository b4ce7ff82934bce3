use Rattle.std.proofs.Common.{get_or, ◌∙◌, refl, subst}
use Rattle.engine.specs.Stands.{state_of}
use Rattle.controllers.specs.declared.order.Order.{Order}
use Rattle.controllers.specs.Orders.{Makes}
use Rattle.controllers.proofs.Ordering.{made_none, made_one}
use Rattle.controllers.proofs.order.make_all.Goals as goal

-- what stands where nothing does
unset : Order
unset = record { kind = 0; number = 0; value = 0; outcome = record { number = 0; place = 0 } }

pub loop-order-init : goal.loop-order-init
loop-order-init g c = (refl, made_none (g.H.Host.meaning c.args.run.now.host) (state_of c.args.run.now.plain) c.args.orders.now)

pub loop-order-preserved : goal.loop-order-preserved
unfolding unset
loop-order-preserved g c =
    let m = g.H.Host.meaning in
    let before = c.loop-order.invariant in
    let s = state_of c.loop-order.run.plain in
    let s' = state_of c.make-order.new.run.plain in
    let o = get_or c.loop-order.orders c.loop-order.order-index unset in
    let makes = subst (λ h. Makes (m h) s o c.make-order.result s') before.0 c.make-order.ensures.made in (
      c.make-order.ensures.host ∙ before.0,
      made_one (m c.args.run.now.host) (state_of c.args.run.now.plain) s s' c.args.orders.now c.loop-order.orders c.loop-order.order-index o unset c.make-order.result c.loop-order-test.true before.1 refl makes,
    )
