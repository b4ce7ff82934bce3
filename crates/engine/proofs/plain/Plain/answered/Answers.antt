use Rattle.std.proofs.Common.{◌<◌, [], subst}
use Rattle.walks.specs.Contents.{content}
use Rattle.runs.specs.declared.call.Call.TheVariants.{Answer}
use Rattle.events.specs.Acts.{act_of}
use Rattle.steps.specs.Laws.{withdrawn_with}
use Rattle.engine.specs.declared.table.Cause.TheVariants.{Answered}
use Rattle.engine.specs.Tallies.{totals_at, amount}
use Rattle.engine.proofs.Counting.{first_has_room}
use Rattle.engine.proofs.Given.{given}
use Rattle.engine.proofs.Moved.{room_answered, room_withdrawn, kept_after, moved_form, answered_state}
use Rattle.engine.proofs.plain.Plain.answered.Goals as goal

pub count-requires : goal.count-requires
count-requires c =
    let x = c.requires in
    let p = c.args.self.now in
    let gone = withdrawn_with c.args.call.ticket (content p.form) c.args.reply.now.pruned in
    subst (λ site. (site < 32) × (amount Answered (totals_at p.table site) < 65535)) x.names.has_site
    (first_has_room p.table Answered x.names.call [] (room_answered x.meaning x.laws p c.args.call.ticket x.value (act_of c.args.reply.now.step.act) gone x.left (content c.args.form.now) x.may x.names.call x.names.stands x.names.has_ticket))

pub count_withdrawn-requires : goal.count_withdrawn-requires
count_withdrawn-requires c =
    let x = c.requires in
    let p = c.args.self.now in
    let gone = withdrawn_with c.args.call.ticket (content p.form) c.args.reply.now.pruned in
    record {
      form = x.names.ends;
      room = room_withdrawn x.meaning x.laws p c.args.call.ticket x.value (act_of c.args.reply.now.step.act) gone x.left (content c.args.form.now) x.may x.names.call x.names.stands x.names.has_ticket c.count.new.self (c.count.ensures x.names.call x.names.has_site);
    }

pub record-requires : goal.record-requires
record-requires c = c.requires.may.move.room

pub invariant_of-self : goal.invariant_of-self
invariant_of-self c =
    let x = c.requires in
    let p = c.args.self.now in
    let gone = withdrawn_with c.args.call.ticket (content p.form) c.args.reply.now.pruned in
    let a = act_of c.args.reply.now.step.act in
    let bs' = content c.args.form.now in
    let it =
    given p.file p.clock c.hold.new.held p.issued c.«record».new.events c.count_withdrawn.new.self
    (answered_state x.meaning x.laws p c.args.call.ticket x.value a gone x.left bs' x.may x.names.call x.names.stands x.names.has_ticket c.count.new.self (c.count.ensures x.names.call x.names.has_site)
    c.hold.new.held c.«record».new.events c.count_withdrawn.new.self c.count_withdrawn.ensures c.«record».ensures c.hold.ensures)
    (kept_after x.meaning x.laws p (Answer c.args.call.ticket x.value) a gone x.left bs' x.may)
    p.whole_file (moved_form x.meaning x.laws p (Answer c.args.call.ticket x.value) a gone x.left bs' x.may c.hold.new.held c.hold.ensures) in
    record { whole_file = it.0; whole_form = it.1; formals = it.2; bodies = it.3; fits = it.4 }

pub returns : goal.returns
returns c =
    let x = c.requires in
    let p = c.args.self.now in
    let gone = withdrawn_with c.args.call.ticket (content p.form) c.args.reply.now.pruned in
    λ m laws v bs may.
    answered_state m laws p c.args.call.ticket v (act_of c.args.reply.now.step.act) gone bs (content c.args.form.now) may x.names.call x.names.stands x.names.has_ticket c.count.new.self (c.count.ensures x.names.call x.names.has_site)
    c.hold.new.held c.«record».new.events c.count_withdrawn.new.self c.count_withdrawn.ensures c.«record».ensures c.hold.ensures
