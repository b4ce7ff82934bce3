use Rattle.std.proofs.Common.{get_or, vec_items, refl, ◌∙◌, subst}
use Rattle.runs.specs.declared.call.Call.TheVariants.{Go}
use Rattle.std.proofs.lemmas.Result.{MatchResult-weaker}
use Rattle.runs.specs.Outcomes.{Outcome}
use Rattle.runs.specs.Histories.{History}
use Rattle.engine.specs.Stands.{state_of}
use Rattle.plays.proofs.Playing.{nothing_played, played_on, all_played, whole_history, record_is_trace}
use Rattle.plays.proofs.play.play.Goals as goal

pub loop-call-init : goal.loop-call-init
loop-call-init g c = (refl, nothing_played (g.H.Host.meaning c.begin-run.result.0.host) (state_of c.begin-run.result.0.plain) (vec_items c.new-responses.result) c.new-responses.ensures.items)

pub loop-call-preserved : goal.loop-call-preserved
loop-call-preserved g c =
    let m = g.H.Host.meaning in
    let before = c.loop-call.invariant in
    let host = before.0 in
    let o = subst (λ h. Outcome (m h) (state_of c.loop-call.run.plain) (get_or c.args.calls.now c.loop-call.call-index (Go 0)) c.make.result (state_of c.make.new.self.plain)) host c.make.ensures.outcome in (
      c.make.ensures.host ∙ host,
      played_on (m c.begin-run.result.0.host) (state_of c.begin-run.result.0.plain) (state_of c.loop-call.run.plain) (state_of c.make.new.self.plain) c.args.calls.now c.loop-call.call-index (Go 0) c.make.result (vec_items c.loop-call.responses) (vec_items c.push.new.self) c.loop-call-test.true before.1 o c.in_ok-push.ensures.items,
    )

pub returns : goal.returns
returns g c =
    let begun = c.begin-run.ensures in
    let run = c.begin-run.result.0 in
    let m = g.H.Host.meaning in
    let host = begun.host in
    let h = subst (λ x. History (m x) (state_of run.plain) c.args.calls.now (vec_items c.loop-call.responses) (state_of c.loop-call.run.plain)) host
    (all_played (m run.host) (state_of run.plain) (state_of c.loop-call.run.plain) c.args.calls.now c.loop-call.call-index (vec_items c.loop-call.responses) c.loop-call-test.false c.loop-call.invariant.1) in
    record {
      judgement = begun.judged;
      history = whole_history (m c.args.host) c.args.file.now (state_of run.plain) (state_of c.loop-call.run.plain) c.args.calls.now (vec_items c.loop-call.responses) h c.begin-run.result.1 begun.begun;
      trace = record_is_trace (m c.args.host) c.args.file.now (state_of run.plain) (state_of c.loop-call.run.plain) c.args.calls.now (vec_items c.loop-call.responses) h c.begin-run.result.1 begun.begun
          (MatchResult-weaker c.begin-run.result.1 begun.faithful (λ _ f. f.0.every_record_is_a_trace) (λ _ _. tt));
    }
