use Rattle.std.proofs.Common.{is_some, Ok, sym, refl, ap, subst}
use Rattle.std.proofs.lemmas.Result.{err_from_is_err_and}
use Rattle.walks.specs.Contents.{content}
use Rattle.runs.specs.declared.call.Call.TheVariants.{Answer}
use Rattle.runs.specs.Outcomes.{Outcome, Refuses, refuses, is_not_loaded, is_not_standing}
use Rattle.events.specs.Acts.{act_of}
use Rattle.steps.specs.Laws.{withdrawn_with}
use Rattle.engine.specs.Stands.{state_of}
use Rattle.engine.specs.Moves.{StandsThere}
use Rattle.engine.proofs.Moved.{outcome}
use Rattle.engine.proofs.Answering.{refused_outcome, refused_keeps, every_transition, outgrown, may_be_made}
use Rattle.engine.proofs.Transits.{refused_of_ticket}
use Rattle.engine.proofs.run.Run.answer.Goals as goal

pub returns-in_err-loaded_file : goal.returns-in_err-loaded_file
returns-in_err-loaded_file g c =
    let m = g.H.Host.meaning c.args.self.now.host in
    let p = c.args.self.now.plain in
    let call = Answer c.args.ticket c.args.value in
    let r = c.from_residual.result in
    let e = err_from_is_err_and r c.from_residual.ensures.1 in
    let none = c.in_err-loaded_file.ensures in
    let o = refused_outcome m p call r e.0 _ e.1 e.2 (subst (Refuses m (state_of p) call) (sym none.0) (is_not_loaded (ap is_some none.1))) in
    record { outcome = o; made = every_transition m p call r _ o; refused = refused_keeps m p call r e.0 _ e.1 e.2; host = refl }

pub returns-in_default : goal.returns-in_default
returns-in_default g c =
    let m = g.H.Host.meaning c.args.self.now.host in
    let p = c.args.self.now.plain in
    let o = refuses (is_not_standing (ap is_some c.in_ok-loaded_file.ensures) c.in_default.ensures) in
    record { outcome = o; made = every_transition m p (Answer c.args.ticket c.args.value) _ _ o; refused = refl; host = refl }

pub returns-in_err-reply : goal.returns-in_err-reply
returns-in_err-reply g c =
    let m = g.H.Host.meaning c.args.self.now.host in
    let p = c.args.self.now.plain in
    let call = Answer c.args.ticket c.args.value in
    let r = c.from_residual-in_err-reply.result in
    let e = err_from_is_err_and r c.from_residual-in_err-reply.ensures.1 in
    let o = refused_outcome m p call r e.0 _ e.1 e.2 (refused_of_ticket c.in-Some.ensures.0 c.in_err-reply.ensures) in
    record { outcome = o; made = every_transition m p call r _ o; refused = refused_keeps m p call r e.0 _ e.1 e.2; host = refl }

pub reply_step-requires : goal.reply_step-requires
reply_step-requires g c =
    let p = c.args.self.now.plain in
    let standing = c.in-Some.standing in
    (ap is_some c.in_ok-loaded_file.ensures, subst (λ k. StandsThere (state_of p) k standing) (sym c.in-Some.ensures.0) c.in-Some.ensures.1)

pub measured-form-requires : goal.measured-form-requires
measured-form-requires g c = c.in_ok-reply.ensures.move.form

pub returns-in_err-check_size : goal.returns-in_err-check_size
returns-in_err-check_size g c =
    let m = g.H.Host.meaning c.args.self.now.host in
    let p = c.args.self.now.plain in
    let call = Answer c.args.ticket c.args.value in
    let k = c.in-Some.standing.call.ticket in
    let reply = c.in_ok-reply.reply in
    let r = c.from_residual-in_err-check_size.result in
    let e = err_from_is_err_and r c.from_residual-in_err-check_size.ensures.1 in
    let large = c.in_err-check_size.ensures in
    let gone = withdrawn_with k (content p.form) reply.pruned in
    let refuses = outgrown m p (Answer k c.args.value) (act_of reply.step.act) gone (content reply.step.form.now) (content c.simplify.new.out) c.in_ok-reply.ensures.move (rw c.measured-form.ensures at c.simplify.ensures) _ large.0 large.1 in
    let o = refused_outcome m p call r e.0 _ e.1 e.2 (refused_of_ticket c.in-Some.ensures.0 refuses) in
    record { outcome = o; made = every_transition m p call r _ o; refused = refused_keeps m p call r e.0 _ e.1 e.2; host = refl }

pub answered-requires : goal.answered-requires
answered-requires g c =
    let host = c.args.self.now.host in
    let m = g.H.Host.meaning host in
    let p = c.args.self.now.plain in
    let k = c.in-Some.standing.call.ticket in
    let reply = c.in_ok-reply.reply in
    let step = c.in_ok-reply.ensures in
    let gone = withdrawn_with k (content p.form) reply.pruned in
    record {
      meaning = m;
      laws = g.H.Host.laws host;
      value = c.args.value;
      left = content reply.step.form.now;
      may = may_be_made m p (Answer k c.args.value) (act_of reply.step.act) gone (content reply.step.form.now) (content c.simplify.new.out) step.move (rw c.measured-form.ensures at c.simplify.ensures) c.in_ok-check_size.ensures;
      names = step.names;
    }

pub returns : goal.returns
returns g c =
    let host = c.args.self.now.host in
    let m = g.H.Host.meaning host in
    let laws = g.H.Host.laws host in
    let p = c.args.self.now.plain in
    let call = Answer c.in-Some.standing.call.ticket c.args.value in
    let reply = c.in_ok-reply.reply in
    let bs = content reply.step.form.now in
    let bs' = content c.simplify.new.out in
    let gone = withdrawn_with c.in-Some.standing.call.ticket (content p.form) reply.pruned in
    let may = may_be_made m p call (act_of reply.step.act) gone bs bs' c.in_ok-reply.ensures.move (rw c.measured-form.ensures at c.simplify.ensures) c.in_ok-check_size.ensures in
    let o = rw c.in-Some.ensures.0 at (subst (Outcome m (state_of p) call (Ok tt)) (sym (c.answered.ensures m laws c.args.value bs may)) (outcome m laws p call (act_of reply.step.act) gone bs bs' may)) in
    record { outcome = o; made = every_transition m p (Answer c.args.ticket c.args.value) (Ok tt) _ o; refused = tt; host = refl }
