use Rattle.std.proofs.Common.{[], ap}
use Rattle.walks.specs.Contents.{content}
use Rattle.runs.specs.declared.call.Call.TheVariants.{Go}
use Rattle.events.specs.Acts.{act_of}
use Rattle.engine.proofs.Given.{given}
use Rattle.engine.proofs.Moved.{room_called, CallCounted, one_call, no_call, room_lapsed, kept_after, moved_form, gone_state}
use Rattle.engine.proofs.plain.Plain.gone.Goals as goal
use Rattle.engine.proofs.plain.Plain.gone.Goals.{in-Called, in_default}

pub count-requires : goal.count-requires
count-requires g c =
    let host = c.args.host.now in
    room_called (g.H.Host.meaning host) (g.H.Host.laws host) c.args.self.now (Go c.requires.0) (act_of c.args.step.now.act) [] (content c.args.step.now.form.now) (content c.args.form.now) c.requires.1 c.in-Called.site c.in-Called.value (ap act_of c.in-Called.is)

pub count_lapsed-requires : goal.count_lapsed-requires
count_lapsed-requires g c =
    let host = c.args.host.now in
    let p = c.args.self.now in
    let act = c.args.step.now.act in
    let called : CallCounted p (act_of act) c.match-step.self.1.1.1.1.0 c.match-step.self.1.1.1.1.1.1.0 =
    elim c.match-step.branch [
      | in-Called w ↦ rw w.self-is (one_call p act w.in-Called.is w.count.ensures)
      | in_default w ↦ rw w.self-is (no_call p act w.in_default.not-Called)
    ] in
    rw c.new-left.ensures (room_lapsed (g.H.Host.meaning host) (g.H.Host.laws host) p c.requires.0 (act_of act) (content c.args.step.now.form.now) (content c.args.form.now) c.requires.1 _ _ called)

pub invariant_of-self : goal.invariant_of-self
invariant_of-self g c =
    let host = c.args.host.now in
    let m = g.H.Host.meaning host in
    let p = c.args.self.now in
    let act = c.args.step.now.act in
    let bs = content c.args.step.now.form.now in
    let bs' = content c.args.form.now in
    let called : CallCounted p (act_of act) c.match-step.self.1.1.1.1.0 c.match-step.self.1.1.1.1.1.1.0 =
    elim c.match-step.branch [
      | in-Called w ↦ rw w.self-is (one_call p act w.in-Called.is w.count.ensures)
      | in_default w ↦ rw w.self-is (no_call p act w.in_default.not-Called)
    ] in
    let it =
    given p.file p.clock c.hold.new.held _ c.«record».new.events c.count_lapsed.new.self
    (gone_state m (g.H.Host.laws host) p c.requires.0 (act_of act) bs bs' c.requires.1 _ _ called c.hold.new.held c.«record».new.events c.count_lapsed.new.self (rw c.new-left.ensures at c.count_lapsed.ensures) c.«record».ensures c.hold.ensures)
    (kept_after m (g.H.Host.laws host) p (Go c.requires.0) (act_of act) [] bs bs' c.requires.1)
    p.whole_file (moved_form m (g.H.Host.laws host) p (Go c.requires.0) (act_of act) [] bs bs' c.requires.1 c.hold.new.held c.hold.ensures) in
    record { whole_file = it.0; whole_form = it.1; formals = it.2; bodies = it.3; fits = it.4 }

pub returns : goal.returns
returns g c =
    let host = c.args.host.now in
    let p = c.args.self.now in
    let act = c.args.step.now.act in
    let called : CallCounted p (act_of act) c.match-step.self.1.1.1.1.0 c.match-step.self.1.1.1.1.1.1.0 =
    elim c.match-step.branch [
      | in-Called w ↦ rw w.self-is (one_call p act w.in-Called.is w.count.ensures)
      | in_default w ↦ rw w.self-is (no_call p act w.in_default.not-Called)
    ] in
    gone_state (g.H.Host.meaning host) (g.H.Host.laws host) p c.requires.0 (act_of act) (content c.args.step.now.form.now) (content c.args.form.now) c.requires.1 _ _ called c.hold.new.held c.«record».new.events c.count_lapsed.new.self (rw c.new-left.ensures at c.count_lapsed.ensures) c.«record».ensures c.hold.ensures
