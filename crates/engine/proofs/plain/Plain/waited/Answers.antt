use Rattle.std.proofs.Common.{◌+◌}
use Rattle.walks.specs.Contents.{content}
use Rattle.engine.proofs.Given.{given}
use Rattle.engine.proofs.Moved.{room_waited, kept_waited, waited_form, waited_state}
use Rattle.engine.proofs.plain.Plain.waited.Goals as goal

pub count_lapsed-requires : goal.count_lapsed-requires
count_lapsed-requires g c =
    let host = c.args.host.now in
    rw c.new-left.ensures (room_waited (g.H.Host.meaning host) (g.H.Host.laws host) c.args.self.now c.args.ticks (content c.args.form.now) c.requires)

pub invariant_of-self : goal.invariant_of-self
invariant_of-self g c =
    let host = c.args.host.now in
    let m = g.H.Host.meaning host in
    let laws = g.H.Host.laws host in
    let p = c.args.self.now in
    let bs' = content c.args.form.now in
    let it =
    given p.file (p.clock + c.args.ticks) c.hold.new.held p.issued p.events c.count_lapsed.new.self
    (waited_state m laws p c.args.ticks bs' c.requires c.hold.new.held c.count_lapsed.new.self (rw c.new-left.ensures at c.count_lapsed.ensures) c.hold.ensures)
    (kept_waited m laws p c.args.ticks bs' c.requires)
    p.whole_file (waited_form m laws p c.args.ticks bs' c.requires c.hold.new.held c.hold.ensures) in
    record { whole_file = it.0; whole_form = it.1; formals = it.2; bodies = it.3; fits = it.4 }

pub returns : goal.returns
returns g c =
    let host = c.args.host.now in
    waited_state (g.H.Host.meaning host) (g.H.Host.laws host) c.args.self.now c.args.ticks (content c.args.form.now) c.requires c.hold.new.held c.count_lapsed.new.self (rw c.new-left.ensures at c.count_lapsed.ensures) c.hold.ensures
