use Rattle.std.proofs.Common.{◌≡◌, ◌∷◌, length, sym, ap, ◌∙◌, arith}
use Rattle.formats.specs.Widths.{width_of}
use Rattle.formats.specs.Operands.{byte_at}
use Rattle.places.specs.Scans.{placed_from}
use Rattle.places.proofs.Scanning.{behind_whole, meets_nothing, meets_other, meets_pending}
use Rattle.places.proofs.tickets.PendingCallsIterator.next.Goals as goal

pub returns-in-Some-read-clause-steps : goal.returns-in-Some-read-clause-steps
returns-in-Some-read-clause-steps c =
    let bs = c.loop-next.self.bytes.now in
    let at = c.loop-next.self.at in
    let next = c.in-Some.next in
    c.loop-next.invariant.left ∙ meets_pending bs at next (sym c.in-Some.ensures) c.in-Some-read.ensures.0.command
    ∙ ap (λ p. record { place = at; call = p } ∷ placed_from bs next) (sym c.in-Some-read.ensures.1)

pub returns-in-Some-read-clause-goes : goal.returns-in-Some-read-clause-goes
returns-in-Some-read-clause-goes c =
    let bs = c.loop-next.self.bytes.now in
    let at = c.loop-next.self.at in
    let next = c.in-Some.next in
    let left = c.loop-next.invariant.left ∙ meets_pending bs at next (sym c.in-Some.ensures) c.in-Some-read.ensures.0.command in
    record { on = λ _. (tt, tt, omega (arith, ap length left)); keeps = tt; rests = λ _. tt }

pub loop-next-preserved : goal.loop-next-preserved
loop-next-preserved c =
    let bs = c.loop-next.self.bytes.now in
    let at = c.loop-next.self.at in
    let next = c.in-Some.next in
    let whole = behind_whole bs at next (sym c.in-Some.ensures) in
    let other : byte_at bs at ≡ 6 → ⊥ = λ is. c.in_default-read.ensures (record { command = is; whole = omega (arith, whole.within, whole.there, ap width_of is) }) in
    record { same_bytes = c.loop-next.invariant.same_bytes; left = c.loop-next.invariant.left ∙ meets_other bs at next (sym c.in-Some.ensures) other }

pub returns-clause-steps : goal.returns-clause-steps
returns-clause-steps c =
    let none = meets_nothing c.loop-next.self.bytes.now c.loop-next.self.at (sym c.in_default.ensures) in
    (c.loop-next.invariant.left ∙ none, none)
