use Rattle.std.proofs.Common.{Ok, sym, refl, subst}
use Rattle.std.proofs.lemmas.Result.{err_from_is_err_and}
use Rattle.runs.specs.declared.call.Call.TheVariants.{Wait}
use Rattle.runs.specs.Outcomes.{Outcome, passes}
use Rattle.engine.specs.Stands.{state_of}
use Rattle.engine.proofs.Answering.{refused_outcome, refused_keeps, every_passage}
use Rattle.engine.proofs.run.Run.wait.Goals as goal

pub returns-in_err-check_wait : goal.returns-in_err-check_wait
returns-in_err-check_wait g c =
    let m = g.H.Host.meaning c.args.self.now.host in
    let p = c.args.self.now.plain in
    let e = err_from_is_err_and c.from_residual.result c.from_residual.ensures.1 in
    let o = refused_outcome m p (Wait c.args.ticks) c.from_residual.result e.0 _ e.1 e.2 c.in_err-check_wait.ensures in
    record {
      outcome = o;
      passed = every_passage m p c.args.ticks c.from_residual.result _ o;
      refused = refused_keeps m p (Wait c.args.ticks) c.from_residual.result e.0 _ e.1 e.2;
      host = refl;
    }

pub returns : goal.returns
returns g c =
    let m = g.H.Host.meaning c.args.self.now.host in
    let p = c.args.self.now.plain in
    let can = c.in_ok-check_wait.ensures in
    let o = subst (Outcome m (state_of p) (Wait c.args.ticks) (Ok tt)) (sym c.waited.ensures) (passes can.loaded can.passes can.in_time) in
    record {
      outcome = o;
      passed = every_passage m p c.args.ticks (Ok tt) _ o;
      refused = tt;
      host = refl;
    }
