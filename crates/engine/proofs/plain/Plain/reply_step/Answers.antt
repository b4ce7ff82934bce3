use Rattle.std.proofs.Common.{◌≡◌, true, false, sym, subst, arith}
use Rattle.std.proofs.lemmas.Option.{MatchOption-at_some}
use Rattle.orc.specs.Meaning.{handle, can_reply}
use Rattle.walks.specs.Contents.{content}
use Rattle.events.specs.Acts.{act_of}
use Rattle.engine.proofs.Given.{there_is}
use Rattle.engine.proofs.Recorded.{event_count}
use Rattle.engine.proofs.Transits.{found_call, outside, answer_full, always_answered, reply_step}
use Rattle.engine.proofs.plain.Plain.reply_step.Goals as goal

pub returns-then-not-can_reply : goal.returns-then-not-can_reply
returns-then-not-can_reply g c =
    let p = c.args.self.now in
    let m = g.H.Host.meaning c.args.host.now in
    let x = c.args.standing.call in
    let place = c.args.standing.place in
    let there = c.requires.1 in
    let is = found_call p c.requires.0 x.ticket place there.place x there.call in
    outside p c.requires.0 x.ticket place there.place c.args.value x.site x.value x.clock x.ticket is m
    (subst (λ t. can_reply (handle m x.site x.value) x.clock t c.args.value ≡ false) c.from.ensures (sym c.if-not-can_reply.ensures))

pub returns-then-is_full : goal.returns-then-is_full
returns-then-is_full g c =
    let p = c.args.self.now in
    let m = g.H.Host.meaning c.args.host.now in
    let x = c.args.standing.call in
    let place = c.args.standing.place in
    let there = c.requires.1 in
    let is = found_call p c.requires.0 x.ticket place there.place x there.call in
    answer_full p c.requires.0 x.ticket place there.place c.args.value x.site x.value x.clock x.ticket is m
    (subst (λ t. can_reply (handle m x.site x.value) x.clock t c.args.value ≡ true) c.from.ensures (sym c.if-not-can_reply.ensures))
    (omega (arith, c.if-is_full.ensures, event_count c.args.self.now.events))

pub unwrap-requires : goal.unwrap-requires
unwrap-requires g c =
    let p = c.args.self.now in
    let m = g.H.Host.meaning c.args.host.now in
    let x = c.args.standing.call in
    let place = c.args.standing.place in
    let there = c.requires.1 in
    let is = found_call p c.requires.0 x.ticket place there.place x there.call in
    let standing = c.measured.result in
    there_is _ c.make_reply.result (c.make_reply.ensures standing.is_form) (always_answered p c.requires.0 x.ticket place there.place c.args.value x.site x.value x.clock x.ticket is m
    (subst (λ t. can_reply (handle m x.site x.value) x.clock t c.args.value ≡ true) c.from.ensures (sym c.if-not-can_reply.ensures))
    standing.form.bytes.now c.measured.ensures)

pub returns : goal.returns
returns g c =
    let p = c.args.self.now in
    let m = g.H.Host.meaning c.args.host.now in
    let x = c.args.standing.call in
    let place = c.args.standing.place in
    let there = c.requires.1 in
    let r = c.unwrap.result in
    let is = found_call p c.requires.0 x.ticket place there.place x there.call in
    let standing = c.measured.result in
    reply_step p c.requires.0 x.ticket place there.place c.args.value x.site x.value x.clock x.ticket is m
    (subst (λ t. can_reply (handle m x.site x.value) x.clock t c.args.value ≡ true) c.from.ensures (sym c.if-not-can_reply.ensures))
    standing.form.bytes.now c.measured.ensures (act_of r.step.act) r.pruned (content r.step.form.now) (omega (arith, c.if-is_full.ensures, event_count c.args.self.now.events)) (MatchOption-at_some _ _ r c.unwrap.ensures (c.make_reply.ensures standing.is_form))
