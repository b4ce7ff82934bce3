use Rattle.std.proofs.Common.{rules, ◌≡◌, ◌+◌, [], ◌∷◌, ◌++◌, Ok, Some, None, vec_items, sym, subst, arith}
use Rattle.std.proofs.lemmas.Iterator.Consumers.{map_from_collect}
use Rattle.std.proofs.lemmas.Iterator.Splits.{YieldsList-from_lines}
use Rattle.runs.specs.declared.call.Call.{Call}
use Rattle.scripts.specs.Scripts.{Said, Stops, nothing_yet}
use Rattle.scripts.proofs.Scripted.{texts, blank_line, call_line, bad_line, collected, all_said}
use Rattle.scripts.proofs.script.read_script.Goals as goal
use Rattle.scripts.proofs.script.read_script.Goals.{in-Ok-Some+in_ok-push-in-Ok-Some, in-Ok-None}

pub loop-before-init : goal.loop-before-init
loop-before-init c = subst (λ calls. Said (texts c.deref-line-items.result.now) 0 calls) (sym c.new-calls.ensures.items) nothing_yet

pub returns-in-Err : goal.returns-in-Err
returns-in-Err c =
    let all = map_from_collect c.collect.result c.collect.ensures.ran (YieldsList-from_lines c.args.text.now c.lines.ensures.rest) in
    let is : c.collect.result ≡ Ok c.in_ok-lines.lines = search rules in
    subst (λ ls. Stops ls (vec_items c.loop-before.calls) (record { line = c.loop-before.before + 1; fault = c.in-Err.fault })) (collected c.collect.result c.in_ok-lines.lines all is c.deref-line-items.ensures.value)
    (bad_line c.deref-line-items.result.now c.loop-before.before _ c.loop-before-test.true c.in-Err.fault c.loop-before.invariant c.in-Err.ensures.says)

pub loop-before-preserved : goal.loop-before-preserved
loop-before-preserved c =
    let items = c.deref-line-items.result.now in
    elim c.match-read_call-2.branch [
      | in-Ok-Some+in_ok-push-in-Ok-Some w ↦
          let read : (call : Call) × (c.read_call.result ≡ Ok (Some call)) × (vec_items w.push.new.self ≡ vec_items c.loop-before.calls ++ (call ∷ [])) = search rules in
          rw w.calls-is
          (subst (λ calls. Said (texts items) (c.loop-before.before + 1) calls) (sym read.2)
          (call_line items c.loop-before.before _ c.loop-before-test.true c.read_call.result read.0 c.loop-before.invariant c.read_call.ensures.says read.1))
      | in-Ok-None w ↦
          let none : c.read_call.result ≡ Ok None = search rules in
          rw w.calls-is (blank_line items c.loop-before.before _ c.loop-before-test.true c.read_call.result c.loop-before.invariant c.read_call.ensures.says none)
    ]

pub returns : goal.returns
returns c =
    let all = map_from_collect c.collect.result c.collect.ensures.ran (YieldsList-from_lines c.args.text.now c.lines.ensures.rest) in
    let is : c.collect.result ≡ Ok c.in_ok-lines.lines = search rules in
    all_said c.deref-line-items.result.now c.loop-before.before (vec_items c.loop-before.calls) (collected c.collect.result c.in_ok-lines.lines all is c.deref-line-items.ensures.value) (omega (arith, c.loop-before-test.false, c.loop-before.auto.before-end)) c.loop-before.invariant
