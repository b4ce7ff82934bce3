use Rattle.std.proofs.Common.{[], Ok, sym, refl, subst}
use Rattle.std.proofs.lemmas.Result.{err_from_is_err_and}
use Rattle.walks.specs.Contents.{content}
use Rattle.runs.specs.declared.call.Call.TheVariants.{Go}
use Rattle.runs.specs.Outcomes.{Outcome}
use Rattle.events.specs.Acts.{act_of}
use Rattle.engine.specs.Stands.{state_of}
use Rattle.engine.proofs.Moved.{outcome}
use Rattle.engine.proofs.Answering.{refused_outcome, refused_keeps, every_transition, outgrown, may_be_made}
use Rattle.engine.proofs.run.Run.go.Goals as goal

pub returns-in_err-step : goal.returns-in_err-step
returns-in_err-step g c =
    let m = g.H.Host.meaning c.args.self.now.host in
    let p = c.args.self.now.plain in
    let r = c.from_residual.result in
    let e = err_from_is_err_and r c.from_residual.ensures.1 in
    let o = refused_outcome m p (Go c.args.n) r e.0 _ e.1 e.2 (c.in_err-step.ensures m) in
    record { outcome = o; made = every_transition m p (Go c.args.n) r _ o; refused = refused_keeps m p (Go c.args.n) r e.0 _ e.1 e.2; host = refl }

pub measured-form-requires : goal.measured-form-requires
measured-form-requires g c = (c.in_ok-step.ensures (g.H.Host.meaning c.args.self.now.host)).form

pub returns-in_err-check_size : goal.returns-in_err-check_size
returns-in_err-check_size g c =
    let m = g.H.Host.meaning c.args.self.now.host in
    let p = c.args.self.now.plain in
    let step = c.in_ok-step.step in
    let r = c.from_residual-in_err-check_size.result in
    let e = err_from_is_err_and r c.from_residual-in_err-check_size.ensures.1 in
    let large = c.in_err-check_size.ensures in
    let refuses = outgrown m p (Go c.args.n) (act_of step.act) [] (content step.form.now) (content c.settle.new.out) (c.in_ok-step.ensures m) (rw c.measured-form.ensures at c.settle.ensures) _ large.0 large.1 in
    let o = refused_outcome m p (Go c.args.n) r e.0 _ e.1 e.2 refuses in
    record { outcome = o; made = every_transition m p (Go c.args.n) r _ o; refused = refused_keeps m p (Go c.args.n) r e.0 _ e.1 e.2; host = refl }

pub gone-requires : goal.gone-requires
gone-requires g c =
    let m = g.H.Host.meaning c.args.self.now.host in
    let step = c.in_ok-step.step in
    (c.args.n, may_be_made m c.args.self.now.plain (Go c.args.n) (act_of step.act) [] (content step.form.now) (content c.settle.new.out) (c.in_ok-step.ensures m) (rw c.measured-form.ensures at c.settle.ensures) c.in_ok-check_size.ensures)

pub returns : goal.returns
returns g c =
    let host = c.args.self.now.host in
    let m = g.H.Host.meaning host in
    let p = c.args.self.now.plain in
    let step = c.in_ok-step.step in
    let bs = content step.form.now in
    let bs' = content c.settle.new.out in
    let may = may_be_made m p (Go c.args.n) (act_of step.act) [] bs bs' (c.in_ok-step.ensures m) (rw c.measured-form.ensures at c.settle.ensures) c.in_ok-check_size.ensures in
    let o = subst (Outcome m (state_of p) (Go c.args.n) (Ok tt)) (sym c.gone.ensures) (outcome m (g.H.Host.laws host) p (Go c.args.n) (act_of step.act) [] bs bs' may) in
    record { outcome = o; made = every_transition m p (Go c.args.n) (Ok tt) _ o; refused = tt; host = refl }
