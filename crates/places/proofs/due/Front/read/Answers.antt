use Rattle.std.proofs.Common.{◌∙◌, ap, sym, drop, length, inl, inr, arith}
use Rattle.std.proofs.lemmas.Slice.{between_to_end}
use Rattle.forms.specs.Commands.{byte_of}
use Rattle.places.proofs.Passing.{nothing_due, stop_due, site_call_due, definition_call_due, parallel_due, sequential_due, pruning_due, pending_due}
use Rattle.places.proofs.due.Front.read.Goals as goal

pub returns-in_default : goal.returns-in_default
returns-in_default c = nothing_due c.args.bytes.now c.in_default.ensures

pub returns-in-Stop : goal.returns-in-Stop
returns-in-Stop c =
    let bs = c.args.bytes.now in
    let command = c.in-Some.ensures in
    let behind = between_to_end bs c.width.result (length bs) (omega arith) ∙ ap (λ n. drop n bs) c.width.ensures in
    elim c.in-Stop.is [
      | inl is ↦ rw (behind, is) (stop_due bs command.1 (sym command.0 ∙ ap byte_of is))
      | inr is ↦ rw (behind, is) (pending_due bs command.1 (sym command.0 ∙ ap byte_of is))
    ]

pub returns-in-SiteCall : goal.returns-in-SiteCall
returns-in-SiteCall c =
    let bs = c.args.bytes.now in
    let command = c.in-Some.ensures in
    let behind = between_to_end bs c.width.result (length bs) (omega arith) ∙ ap (λ n. drop n bs) c.width.ensures in
    elim c.in-SiteCall.is [
      | inl is ↦ rw (c.ready_calls.ensures, behind, is) (site_call_due bs command.1 (sym command.0 ∙ ap byte_of is))
      | inr is ↦ rw (c.ready_calls.ensures, behind, is) (definition_call_due bs command.1 (sym command.0 ∙ ap byte_of is))
    ]

pub returns-in-Parallel : goal.returns-in-Parallel
returns-in-Parallel c =
    let bs = c.args.bytes.now in
    let command = c.in-Some.ensures in
    let behind = between_to_end bs c.width.result (length bs) (omega arith) ∙ ap (λ n. drop n bs) c.width.ensures in
    elim c.in-Parallel.is [
      | inl is ↦ rw (behind, is) (parallel_due bs command.1 (sym command.0 ∙ ap byte_of is))
      | inr is ↦ rw (behind, is) (pruning_due bs command.1 (sym command.0 ∙ ap byte_of is))
    ]

pub returns-in-Sequential : goal.returns-in-Sequential
returns-in-Sequential c =
    let bs = c.args.bytes.now in
    let command = c.in-Some.ensures in
    let behind = between_to_end bs c.width.result (length bs) (omega arith) ∙ ap (λ n. drop n bs) c.width.ensures in
    let is = c.in-Sequential.is in
    rw (behind, is) (sequential_due bs command.1 (sym command.0 ∙ ap byte_of is))
